-- The tokens of a wire, dealt to two others one after the other.
use Rattle.cn_yard.proofs.Common.{◌≡◌, ◌≢◌, ℕ, zero, suc, ◌+◌, ◌-◌, ◌%◌, ◌<◌, ◌≤◌, cond, Bool, true, false, List, [], ◌∷◌, ◌++◌, length, refl, sym, ap, ◌∙◌, subst, arith, Some, add-zero, append-nil, ◌==◌, Yard, last_on, nat_tests, on, standing, times_in, tokens_in, eq-eqb, ne_eqb, append_assoc, length_push, Deals, IsDealt, every_second, out_of, Moves}
use Rattle.cn_yard.proofs.There.{IsFirst, first-there, once-moved, others-on, rest-on}

-- ---- one after the other

-- a move after others
deals-next : (outs : ℕ → ℕ) (output : ℕ) (done : List (ℕ × ℕ)) (old between new : Yard) (token client : ℕ)
    → Deals outs output done old between
    → Moves between new token client (outs ((output + length done) % 2)) → Deals outs output (done ++ (token, client) ∷ []) old new
unfolding Deals
deals-next outs output [] old between new token client same moves =
    (new, subst (λ (y : Yard). Moves y new token client (outs (output % 2))) same (rw add-zero at moves), refl)
deals-next outs output (e ∷ done) old between new token client (first, one, rest) moves =
    let next : output + length (e ∷ done) ≡ output + 1 + length done = omega arith in
    (first, one, deals-next outs (output + 1) done first between new token client rest (rw next at moves))

-- so far: the first tokens of the wire were moved, and the rest stands there
pub record IsDealing (outs : ℕ → ℕ) (output wire : ℕ) (old now : Yard) (turn : ℕ) : Type 0 where
  pub done : List (ℕ × ℕ)
  pub rest : List (ℕ × ℕ)
  pub whole : on old.lists wire ≡ done ++ rest
  pub left : on now.lists wire ≡ rest
  pub dealt : Deals outs output done old now
  pub output_is : turn ≡ (output + length done) % 2
  pub once : (k : ℕ) → times_in now.lists k ≤ 1
  pub wires : length now.lists ≡ length old.lists

pub begins : (outs : ℕ → ℕ) (output wire : ℕ) (old : Yard) → output < 2 → ((k : ℕ) → times_in old.lists k ≤ 1)
    → IsDealing outs output wire old old output
unfolding Deals
begins outs output wire old low once = record {
  done = [];
  rest = on old.lists wire;
  whole = refl;
  left = refl;
  dealt = refl;
  output_is = omega (arith, low);
  once = once;
  wires = refl;
}

module _ {outs : ℕ → ℕ} {output wire : ℕ} {old y : Yard} {turn token : ℕ} (is : IsDealing outs output wire old y turn)
    (inside : wire < length old.lists) (next : IsFirst wire y token) where
  within : wire < length y.lists
  within = omega (arith, inside, is.wires)

  -- it stands there
  pub next-stands : standing y.lists token ≡ Some (wire, next.client)
  next-stands = (first-there y.lists token next.client wire next.after is.once within next.begins).found

  -- once it is moved, the rest stands there
  rest-stays : (z : Yard) (to : ℕ) → wire ≢ to → Moves y z token next.client to → on z.lists wire ≡ next.after
  rest-stays z to differ moves =
      let left = rest-on y.lists token next.client wire next.after is.once within next.begins in
      let none : last_on token next.client to wire ≡ [] = grind (arith, nat_tests) in
      moves.lists wire ∙ rw (left, none) (append-nil next.after)

  pub goes-on : {z : Yard} {to : ℕ} → to ≡ outs turn → to < length old.lists → wire ≢ to
      → Moves y z token next.client to → IsDealing outs output wire old z (1 - turn)
  goes-on {z} {to} at lands differ moves = record {
    done = is.done ++ (token, next.client) ∷ [];
    rest = next.after;
    whole = is.whole ∙ ap (λ (es : List (ℕ × ℕ)). is.done ++ es) (sym is.left ∙ next.begins)
        ∙ sym (append_assoc is.done ((token, next.client) ∷ []) next.after);
    left = rest-stays z to differ moves;
    dealt = deals-next outs output is.done old y z token next.client is.dealt (rw (at ∙ ap outs is.output_is) at moves);
    output_is = omega (arith, is.output_is, length_push is.done (token, next.client));
    once = λ k. once-moved y.lists token next.client wire next.after is.once within next.begins z.lists moves.wires k to
        (omega (arith, lands, is.wires)) moves.lists;
    wires = moves.wires ∙ is.wires;
  }

  -- one is left less
  pub fewer : {z : Yard} {to : ℕ} → wire ≢ to → Moves y z token next.client to
      → length (on z.lists wire) < length (on y.lists wire)
  fewer {z} {to} differ moves = omega (arith, ap length (rest-stays z to differ moves), ap length next.begins)

-- in the end all were moved
pub ends : {outs : ℕ → ℕ} {output wire : ℕ} {old now : Yard} {turn : ℕ} → IsDealing outs output wire old now turn
    → on now.lists wire ≡ [] → Deals outs output (on old.lists wire) old now
ends {outs} {output} {wire} {old} {now} is none =
    let whole : on old.lists wire ≡ is.done =
    is.whole ∙ ap (λ (es : List (ℕ × ℕ)). is.done ++ es) (sym is.left ∙ none) ∙ append-nil is.done in
    subst (λ (es : List (ℕ × ℕ)). Deals outs output es old now) (sym whole) is.dealt

-- ---- where the tokens stand then

-- an output's wire is one of the two
pub either-out : (P : ℕ → Type 0) (out0 out1 output : ℕ) → P out0 → P out1 → P (out_of out0 out1 output)
either-out P out0 out1 output first second = by (output == 0)
  where
    by : (b : Bool) → P (cond b out0 out1)
    by true = first
    by false = second

module _ (out0 out1 : ℕ) (differ : out0 ≢ out1) where
  -- what comes to a wire of tokens that are dealt from this output on
  abbrev comes : ℕ → List (ℕ × ℕ) → ℕ → List (ℕ × ℕ)
  comes p es u = cond (u == out0) (every_second p es) (cond (u == out1) (every_second (1 - p) es) [])

  nothing-comes : (p u : ℕ) → comes p [] u ≡ []
  unfolding every_second
  nothing-comes p u = grind (arith, nat_tests)

  not-here : (token client wire u : ℕ) → wire ≢ u → last_on token client wire u ≡ []
  not-here token client wire u other = rw (ne_eqb wire u other) refl

  -- a token more comes to the first wire, or to the second
  more : (output token client u : ℕ) (rest : List (ℕ × ℕ))
      → last_on token client (out_of out0 out1 (output % 2)) u ++ comes ((output + 1) % 2) rest u
      ≡ comes (output % 2) ((token, client) ∷ rest) u
  unfolding every_second
  more output token client u rest = by (output % 2) ((output + 1) % 2) (omega arith) (omega arith)
    where
      by : (p q : ℕ) → p < 2 → q ≡ 1 - p → last_on token client (out_of out0 out1 p) u ++ comes q rest u
          ≡ comes p ((token, client) ∷ rest) u
      by zero q low is = rw is (grind (arith, nat_tests))
      by (suc zero) q low is = rw is (grind (arith, nat_tests))
      by (suc (suc p)) q low is = absurd (omega arith)

  -- the lists after tokens of a wire were dealt
  record AreDealt (wire p : ℕ) (tokens : List (ℕ × ℕ)) (old new : Yard) : Type 0 where
    wires : length new.lists ≡ length old.lists
    empty : on new.lists wire ≡ []
    others : (u : ℕ) → u ≢ wire → on new.lists u ≡ on old.lists u ++ comes p tokens u
    spare : new.spare ≡ old.spare
    count : tokens_in new.lists ≡ tokens_in old.lists

  dealt-lists : (wire output : ℕ) (tokens : List (ℕ × ℕ)) (old new : Yard) → wire ≢ out0 → wire ≢ out1 → wire < length old.lists
      → out0 < length old.lists → out1 < length old.lists
      → ((k : ℕ) → times_in old.lists k ≤ 1) → on old.lists wire ≡ tokens → Deals (out_of out0 out1) output tokens old new
      → AreDealt wire (output % 2) tokens old new
  unfolding Deals
  dealt-lists wire output [] old new differ0 differ1 inside in0 in1 once is same = record {
    wires = ap (λ (y : Yard). length y.lists) same;
    empty = ap (λ (y : Yard). on y.lists wire) same ∙ is;
    others = λ u other. ap (λ (y : Yard). on y.lists u) same ∙ rw (nothing-comes (output % 2) u) (sym (append-nil (on old.lists u)));
    spare = ap (λ (y : Yard). y.spare) same;
    count = ap (λ (y : Yard). tokens_in y.lists) same;
  }
  dealt-lists wire output ((token, client) ∷ rest) old new differ0 differ1 inside in0 in1 once is (between, moves, later) =
      let to : ℕ = out_of out0 out1 (output % 2) in
      let lands : to < length old.lists = either-out (λ u. u < length old.lists) out0 out1 (output % 2) in0 in1 in
      let away : wire ≢ to = either-out (λ u. wire ≢ u) out0 out1 (output % 2) differ0 differ1 in
      let left : on between.lists wire ≡ rest =
      moves.lists wire ∙ rw (rest-on old.lists token client wire rest once inside is, not-here token client to wire (λ e. away (sym e)))
      (append-nil rest) in
      let once_more : (k : ℕ) → times_in between.lists k ≤ 1 =
      λ k. once-moved old.lists token client wire rest once inside is between.lists moves.wires k to lands moves.lists in
      let after = dealt-lists wire (output + 1) rest between new differ0 differ1 (omega (arith, inside, moves.wires))
      (omega (arith, in0, moves.wires)) (omega (arith, in1, moves.wires)) once_more left later in
      record {
        wires = after.wires ∙ moves.wires;
        empty = after.empty;
        others = λ u other.
            after.others u other
            ∙ ap (λ (es : List (ℕ × ℕ)). es ++ comes ((output + 1) % 2) rest u)
            (moves.lists u ∙ ap (λ (es : List (ℕ × ℕ)). es ++ last_on token client to u)
            (others-on old.lists token client wire rest once inside is u other))
            ∙ append_assoc (on old.lists u) (last_on token client to u) (comes ((output + 1) % 2) rest u)
            ∙ ap (λ (es : List (ℕ × ℕ)). on old.lists u ++ es) (more output token client u rest);
        spare = after.spare ∙ moves.spare;
        count = after.count ∙ moves.tokens;
      }

  pub dealt : (wire output : ℕ) (old new : Yard) → wire ≢ out0 → wire ≢ out1 → wire < length old.lists → out0 < length old.lists
      → out1 < length old.lists → output < 2
      → ((k : ℕ) → times_in old.lists k ≤ 1) → Deals (out_of out0 out1) output (on old.lists wire) old new
      → IsDealt wire output out0 out1 old new
  dealt wire output old new differ0 differ1 inside in0 in1 low once deals =
      let same : output % 2 ≡ output = omega (arith, low) in
      let all = rw same at (dealt-lists wire output (on old.lists wire) old new differ0 differ1 inside in0 in1 once refl deals) in
      record {
        wires = all.wires;
        empty = all.empty;
        first = all.others out0 (λ e. differ0 (sym e)) ∙ rw (eq-eqb out0 out0 refl) refl;
        second = all.others out1 (λ e. differ1 (sym e))
            ∙ rw (ne_eqb out1 out0 (λ e. differ (sym e)), eq-eqb out1 out1 refl) refl;
        others = λ u other first second. all.others u other
            ∙ rw (ne_eqb u out0 first, ne_eqb u out1 second) (append-nil (on old.lists u));
        spare = all.spare;
        tokens = all.count;
      }
