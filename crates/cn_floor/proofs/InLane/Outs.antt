-- The tokens of a wire leave one after the other.
use Rattle.cn_floor.proofs.Common.{◌≡◌, ℕ, suc, ◌+◌, ◌-◌, ◌<◌, ◌≤◌, List, [], ◌∷◌, ◌++◌, length, refl, sym, ap, ◌∙◌, subst, arith, Some, append-nil, length-append, Grant, IsThere, Yard, append_assoc, length_push, name_of, on, times_in, Frees, Releases, standing, IsFirst, first-there, once-gone, rest-on, there-alike, grants_out}

-- a release after others
frees-next : (done : List (ℕ × ℕ)) (old between new : Yard) (e : ℕ × ℕ) → Frees done old between → Releases between new e.0
    → Frees (done ++ e ∷ []) old new
unfolding Frees
frees-next [] old between new e same one = (new, subst (λ (y : Yard). Releases y new e.0) same one, refl)
frees-next (d ∷ done) old between new e (first, taken, rest) one = (first, taken, frees-next done first between new e rest one)

-- a grant after others
pub grants-next : (width less i n m : ℕ) (done : List (ℕ × ℕ)) (token client : ℕ) → m ≡ n + length done
    → grants_out width less i n (done ++ (token, client) ∷ [])
    ≡ grants_out width less i n done ++ record { client = client; exit = i; visit = m; name = name_of width i m - less } ∷ []
unfolding grants_out
grants-next width less i n m [] token client is = let same : n ≡ m = omega (arith, is) in rw same refl
grants-next width less i n m (d ∷ done) token client is =
    let later : m ≡ n + 1 + length done = omega (arith, is) in
    ap (λ (gs : List Grant). record { client = d.1; exit = i; visit = n; name = name_of width i n - less } ∷ gs)
    (grants-next width less i (n + 1) m done token client later)

pub grants-many : (width less i n : ℕ) (done : List (ℕ × ℕ)) → length (grants_out width less i n done) ≡ length done
unfolding grants_out
grants-many width less i n [] = refl
grants-many width less i n (d ∷ done) = ap suc (grants-many width less i (n + 1) done)

-- so far: the first tokens of the wire left, and the rest stands there
pub record IsLeaving (width less i first wire : ℕ) (old now : Yard) (had has : List Grant) (visit : ℕ) : Type 0 where
  pub done : List (ℕ × ℕ)
  pub rest : List (ℕ × ℕ)
  pub whole : on old.lists wire ≡ done ++ rest
  pub left : on now.lists wire ≡ rest
  pub freed : Frees done old now
  pub granted : has ≡ had ++ grants_out width less i first done
  pub visit_is : visit ≡ first + length done
  pub once : (k : ℕ) → times_in now.lists k ≤ 1
  pub wires : length now.lists ≡ length old.lists

pub leaving : (width less i first wire : ℕ) (old : Yard) (had : List Grant) → ((k : ℕ) → times_in old.lists k ≤ 1)
    → IsLeaving width less i first wire old old had had first
unfolding Frees grants_out
leaving width less i first wire old had once = record {
  done = [];
  rest = on old.lists wire;
  whole = refl;
  left = refl;
  freed = refl;
  granted = sym (append-nil had);
  visit_is = omega arith;
  once = once;
  wires = refl;
}

module _ {width less i first wire : ℕ} {old y : Yard} {had has : List Grant} {visit token : ℕ}
    (is : IsLeaving width less i first wire old y had has visit)
    (inside : wire < length old.lists) (next : IsFirst wire y token) where
  abbrev grant : Grant
  grant = record { client = next.client; exit = i; visit = visit; name = name_of width i visit - less }

  within : wire < length y.lists
  within = omega (arith, inside, is.wires)

  -- it stands there
  pub stands : standing y.lists token ≡ Some (wire, next.client)
  stands = (first-there y.lists token next.client wire next.after is.once within next.begins).found

  -- for its client
  pub client-is : (client wire' : ℕ) → IsThere y.lists token client wire' → client ≡ next.client
  client-is client wire' there = (there-alike y.lists token client next.client wire' wire there
      (first-there y.lists token next.client wire next.after is.once within next.begins)).0

  -- how many have left, and one more is there to leave
  pub some-left : length is.done + 1 ≤ length (on old.lists wire)
  some-left = omega (arith, ap length is.whole, length-append is.done is.rest, ap length (sym is.left ∙ next.begins))

  pub has-many : length has ≡ length had + length is.done
  has-many = ap length is.granted ∙ length-append had (grants_out width less i first is.done)
      ∙ ap (λ (k : ℕ). length had + k) (grants-many width less i first is.done)

  left-now : (z : Yard) → Releases y z token → on z.lists wire ≡ next.after
  left-now z released = released.lists wire ∙ rest-on y.lists token next.client wire next.after is.once within next.begins

  -- once it has left
  pub leaves-on : (z : Yard) (now : List Grant) → Releases y z token
      → now ≡ has ++ grant ∷ []
      → IsLeaving width less i first wire old z had now (visit + 1)
  leaves-on z now released grants = record {
    done = is.done ++ (token, next.client) ∷ [];
    rest = next.after;
    whole = is.whole ∙ ap (λ (es : List (ℕ × ℕ)). is.done ++ es) (sym is.left ∙ next.begins)
        ∙ sym (append_assoc is.done ((token, next.client) ∷ []) next.after);
    left = left-now z released;
    freed = frees-next is.done old y z (token, next.client) is.freed released;
    granted = grants ∙ ap (λ (gs : List Grant). gs ++ grant ∷ []) is.granted
        ∙ append_assoc had (grants_out width less i first is.done) (grant ∷ [])
        ∙ ap (λ (gs : List Grant). had ++ gs) (sym (grants-next width less i first visit is.done token next.client is.visit_is));
    visit_is = omega (arith, is.visit_is, length_push is.done (token, next.client));
    once = λ k. once-gone y.lists token next.client wire next.after is.once within next.begins z.lists released.wires k released.lists;
    wires = released.wires ∙ is.wires;
  }

  pub one-less : (z : Yard) → Releases y z token → length (on z.lists wire) < length (on y.lists wire)
  one-less z released = omega (arith, ap length (left-now z released), ap length next.begins)

-- in the end all have left
pub left-all : {width less i first wire : ℕ} {old now : Yard} {had has : List Grant} {visit : ℕ}
    → IsLeaving width less i first wire old now had has visit → on now.lists wire ≡ []
    → Frees (on old.lists wire) old now × (has ≡ had ++ grants_out width less i first (on old.lists wire))
left-all {width} {less} {i} {first} {wire} {old} {now} {had} is none =
    let whole : on old.lists wire ≡ is.done =
    is.whole ∙ ap (λ (es : List (ℕ × ℕ)). is.done ++ es) (sym is.left ∙ none) ∙ append-nil is.done in (
      subst (λ (es : List (ℕ × ℕ)). Frees es old now) (sym whole) is.freed,
      is.granted ∙ ap (λ (es : List (ℕ × ℕ)). had ++ grants_out width less i first es) (sym whole),
    )
