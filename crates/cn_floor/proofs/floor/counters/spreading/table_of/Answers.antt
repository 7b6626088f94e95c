use Rattle.cn_floor.proofs.Common.{◌≡◌, ◌*◌, ℕ, List, length, sym, ap, ◌∙◌, spread}
use Rattle.std.proofs.lemmas.Result.{IfOk-weaker}
use Rattle.cn_floor.proofs.InStates.Spreads.{spread-one, length-spread}
use Rattle.cn_floor.proofs.floor.counters.spreading.table_of.Goals as goal

pub of_words-requires : goal.of_words-requires
of_words-requires c =
    let ws : List ℕ = c.args.words.now in
    (ws, sym (spread-one ws) ∙ ap (λ (n : ℕ). spread n ws) (sym c.if-about-eq1.true), c.requires.began)

pub returns-clause-words : goal.returns-clause-words
returns-clause-words c =
    let ws : List ℕ = c.args.words.now in
    let stride : ℕ = c.args.about.now.stride in
    let long : length c.as_slice.result.now ≡ stride * length ws =
    ap length (c.as_slice.ensures.value ∙ c.in_ok-spaced.ensures) ∙ length-spread stride c.requires.stride ws in
    IfOk-weaker c.of_words-2.result _ (λ t. t.0.shared.table_id.words ≡ stride * length ws) (λ t is. is.0 ∙ long) c.of_words-2.ensures
