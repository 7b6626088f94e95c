use Rattle.cn_floor.proofs.Common.{◌≡◌, ℕ, List, arith, ap, sym, ◌∙◌, subst, IsClosed, Start, WordsValue, clients_in, IfSome, words_before, IsClosedFloor, QuietValue, IsDifference, NoneWent}
use Rattle.cn_floor.proofs.floor.closed_floor.ClosedFloor.quiet_in.Goals as goal

-- they lie as those lay with which the floor began
lies : (before : WordsValue) (quiet : QuietValue) (stride : ℕ) → stride ≡ before.stride → before ≡ words_before quiet.start
    → stride ≡ quiet.start.stride
lies before quiet stride same began = same ∙ ap (λ (w : WordsValue). w.stride) began

pub closed-requires-clause-closed : goal.closed-requires-clause-closed
closed-requires-clause-closed c =
    let lie = lies c.args.before c.args.self _ (ap (λ (w : WordsValue). w.stride) c.before-2.view_is) c.requires.before
    ∙ ap (λ (q : QuietValue). q.start.stride) (sym c.self.view_is) in
    subst (λ (w : WordsValue). IsClosed w)
    (λ i. record { network = (sym c.self.invariant.network) i; words = (sym c.copy_words.ensures) i; stride = (sym lie) i })
    c.self.invariant.closed

pub invariant_of-result : goal.invariant_of-result
invariant_of-result c =
    let start : Start = c.self.inside.lane.value.home.start in
    let before : c.args.before ≡ words_before start =
    c.requires.before ∙ ap (λ (q : QuietValue). words_before q.start) (sym c.self.view_is) in
    let copied = c.copy_words.ensures in
    let words : c.closed.result.words ≡ c.copy_words.new.list.items = ap (λ (w : WordsValue). w.words) c.closed.ensures in
    record {
      closed_floor = subst (λ (ws : List ℕ). IsClosedFloor start c.self.inside.lane.value.view ws) (sym (words ∙ copied))
          c.self.invariant.closed_floor;
      network = ap (λ (w : WordsValue). w.network) c.closed.ensures ∙ c.self.invariant.network;
      stride = ap (λ (w : WordsValue). w.stride) c.closed.ensures
          ∙ lies c.args.before c.args.self _ (ap (λ (w : WordsValue). w.stride) c.before-2.view_is) c.requires.before
          ∙ ap (λ (q : QuietValue). q.start.stride) (sym c.self.view_is);
      few = omega (arith, c.self.invariant.few, ap (λ (ws : List ℕ). clients_in start.network.table ws) (words ∙ copied));
      grants = c.self.invariant.grants;
      risen = subst (λ (ws : List ℕ). IfSome c.risen_to-risen.result (λ list. IsDifference start.words ws list.items)) (sym words)
          (subst (λ (b : WordsValue). IfSome c.risen_to-risen.result (λ list. IsDifference b.words c.copy_words.new.list.items list.items))
          before c.risen_to-risen.ensures.some);
      none = λ n. subst (λ (b : WordsValue). NoneWent b.network.table b.words) before (c.risen_to-risen.ensures.none n);
    }
