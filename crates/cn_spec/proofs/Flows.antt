-- A flow gives each wire a number. The flows of a part of a list of wires are the part of the flows, and no wire is lost.
use Rattle.cn_spec.proofs.Common.{◌≡◌, ℕ, suc, ◌+◌, ◌*◌, ◌/◌, ◌<◌, true, false, List, [], ◌∷◌, length, map, get_or, refl, sym, ap, ◌∙◌, arith, fill_by_all, get_or-map-range_with_len, length-map-range_with_len, times, entries_at, evens, odds, interleave, a_cochain, b_cochain}
use Rattle.std.proofs.lemmas.List.{length-map, get_or-map}
use Rattle.cn_spec.proofs.Rows.{part, evens-firsts, odds-seconds, in_turn, a-in-turn, b-in-turn}

-- ---- flows

pub map-entries-at : (f p : ℕ → ℕ) (n m : ℕ) (x : List ℕ) → n ≡ m → ((j : ℕ) → j < n → p j < length x)
    → map f (entries_at p n x) ≡ entries_at p m (map f x)
map-entries-at f p n m x e h = fill_by_all (λ j. get_or (map f x) (p j) 0) (map f (entries_at p n x)) m 0
    (length-map (entries_at p n x) f ∙ length-map-range_with_len _ 0 n ∙ e) at
  where
    at : (k : ℕ) → k < m → get_or (map f (entries_at p n x)) k 0 ≡ get_or (map f x) (p k) 0
    at k l =
        let b : k < n = omega arith in
        get_or-map f (entries_at p n x) k 0 0 (omega (arith, length-map-range_with_len (λ j. get_or x (p j) 0) 0 n))
        ∙ ap f (get_or-map-range_with_len (λ j. get_or x (p j) 0) 0 n k k 0 b (omega arith))
        ∙ sym (get_or-map f x (p k) 0 0 (h k b))

pub map-evens : (f : ℕ → ℕ) (x : List ℕ) → map f (evens x) ≡ evens (map f x)
map-evens f x = map-entries-at f _ _ _ x (ap (λ n. n / 2) (sym (length-map x f))) (λ j h. omega arith)

pub map-odds : (f : ℕ → ℕ) (x : List ℕ) → map f (odds x) ≡ odds (map f x)
map-odds f x = map-entries-at f _ _ _ x (ap (λ n. n / 2) (sym (length-map x f))) (λ j h. omega arith)

pub map-a_cochain : (f : ℕ → ℕ) (x : List ℕ) → map f (a_cochain x) ≡ a_cochain (map f x)
map-a_cochain f x = map-entries-at f _ _ _ x (ap (λ n. n / 2) (sym (length-map x f))) (λ j h. omega arith)

pub map-b_cochain : (f : ℕ → ℕ) (x : List ℕ) → map f (b_cochain x) ≡ b_cochain (map f x)
map-b_cochain f x = map-entries-at f _ _ _ x (ap (λ n. n / 2) (sym (length-map x f))) (λ j h. omega arith)

pub map-interleave : (f : ℕ → ℕ) (x y : List ℕ) → map f (interleave x y) ≡ interleave (map f x) (map f y)
map-interleave f (a ∷ x) (b ∷ y) = ap (λ r. f a ∷ f b ∷ r) (map-interleave f x y)
map-interleave f _ _ = refl

-- ---- how often a wire stands in the parts

times-pairs : (w n : ℕ) (x : List ℕ) → length x ≡ n * 2 → times w (part false x) + times w (part true x) ≡ times w x
unfolding times
times-pairs w n [] e = refl
times-pairs w (suc n) (a ∷ b ∷ x) e = omega (arith, times-pairs w n x (omega arith))
times-pairs w _ _ e = absurd (omega arith)

pub times-evens-odds : (w n : ℕ) (x : List ℕ) → length x ≡ n * 2 → times w (evens x) + times w (odds x) ≡ times w x
times-evens-odds w n x e = rw (evens-firsts x, odds-seconds x) (times-pairs w n x e)

times-in-turn : (w n : ℕ) (x : List ℕ) → length x ≡ n * 2 → times w (in_turn x true) + times w (in_turn x false) ≡ times w x
unfolding times
times-in-turn w n [] e = refl
times-in-turn w (suc n) (a ∷ b ∷ x) e = omega (arith, times-in-turn w n x (omega arith))
times-in-turn w _ _ e = absurd (omega arith)

pub times-cochains : (w n : ℕ) (x : List ℕ) → length x ≡ n * 2 → times w (a_cochain x) + times w (b_cochain x) ≡ times w x
times-cochains w n x e = rw (a-in-turn x, b-in-turn x) (times-in-turn w n x e)

pub times-interleave : (w : ℕ) (x y : List ℕ) → length x ≡ length y → times w (interleave x y) ≡ times w x + times w y
unfolding times
times-interleave w [] [] e = refl
times-interleave w (a ∷ x) (b ∷ y) e = omega (arith, times-interleave w x y (omega arith))
times-interleave w _ _ e = absurd (omega arith)
