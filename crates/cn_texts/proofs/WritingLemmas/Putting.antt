-- A text that is put in pieces, part by part.
use Rattle.cn_texts.proofs.Common.{add-one, zero-add, ◌∷◌, drop, get_or, ◌≡◌, ℕ, ◌+◌, ◌<◌, ◌≤◌, true, false, List, [], ◌++◌, Option, Result, Ok, Err, length, take, ap, ◌∙◌, sym, subst, append_assoc, append-nil, arith, length-append, length-take, take-append-drop, refl, IfErr, flat_map, range_with_len, flat_map_more, take_all, take_more, take-append-le, IsOnItsWay, Pending, Puts, nothing_put, take-length, range_more, Appends, Keeps, ◌-◌, Some, None, take-take, take-add}
use Rattle.std.proofs.KnownBytes.{Appends-kept, Appends-nil, Appends-trans}
use Rattle.cn_texts.specs.declared.writing.emitting.EmitFault.{EmitFault}
use Rattle.cn_texts.specs.Writing.Written.{First, HasWritten, Nothing, Whole, Written, written_by}

-- ---- one piece

-- all that is held is written
pub written-all : (start now then : Option (List ℕ)) (from to : Pending) (text left : List ℕ) → from.failed ≡ false
    → Appends now then from.held → to.held ≡ []
    → to.written ≡ from.written + length from.held → IsOnItsWay start now from text left → IsOnItsWay start then to text left
written-all start now then from to text left ok grew none counted way =
    record {
      out = way.out ++ from.held;
      rest = left;
      grown = Appends-trans start now then way.out from.held way.grown grew;
      counted = omega (arith, counted, way.counted, length-append way.out from.held);
      whole = way.whole ∙ ap (λ (t : List ℕ). way.out ++ t) (way.held ok) ∙ sym (append_assoc way.out from.held left);
      held = λ still. ap (λ (t : List ℕ). t ++ left) (sym none);
    }

-- the first bytes of what is held are written, and no more will be
pub written-some : (start now then : Option (List ℕ)) (from to : Pending) (text left : List ℕ) (count : ℕ) → from.failed ≡ false
    → to.failed ≡ true → count ≤ length from.held
    → Appends now then (take count from.held) → to.written ≡ from.written + count → IsOnItsWay start now from text left
    → IsOnItsWay start then to text left
written-some start now then from to text left count ok failed within grew counted way =
    let parts : from.held ++ left ≡ take count from.held ++ (drop count from.held ++ left) =
    ap (λ (t : List ℕ). t ++ left) (sym (take-append-drop count from.held))
    ∙ append_assoc (take count from.held) (drop count from.held) left in
    record {
      out = way.out ++ take count from.held;
      rest = drop count from.held ++ left;
      grown = Appends-trans start now then way.out (take count from.held) way.grown grew;
      counted = omega (arith, counted, way.counted, within, length-append way.out (take count from.held), length-take count from.held);
      whole = way.whole ∙ ap (λ (t : List ℕ). way.out ++ t) (way.held ok ∙ parts)
          ∙ sym (append_assoc way.out (take count from.held) (drop count from.held ++ left));
      held = λ still. absurd (let none : true ≡ false = sym failed ∙ still in cc);
    }

-- ---- the end of a text

-- what is written is the first of it
pub cut-off : {W : Type 0} (contents : W → Option (List ℕ)) (first now : W) (to : Pending) (text left : List ℕ)
    → IsOnItsWay (contents first) (contents now) to text left
    → HasWritten contents (λ t. t ≡ text) (First to.written) first now
cut-off contents first now to text left way =
    let front : take to.written text ≡ way.out =
    ap (λ n. take n text) way.counted ∙ ap (take (length way.out)) way.whole
    ∙ take-append-le (length way.out) way.out way.rest (omega arith) ∙ take-length way.out in (
      text,
      refl,
      omega (arith, way.counted, ap length way.whole, length-append way.out way.rest),
      subst (Appends (contents first) (contents now)) (sym front) way.grown,
    )

-- all of it if no write failed, and also if a flush does
pub ended : {U W : Type 0} (contents : W → Option (List ℕ)) (first now then : W) (to : Pending) (text : List ℕ)
    (result : Result U EmitFault) → to.failed ≡ false → to.held ≡ []
    → IsOnItsWay (contents first) (contents now) to text [] → Keeps (contents now) (contents then)
    → IfErr result (λ fault. fault.written ≡ to.written)
    → HasWritten contents (λ t. t ≡ text) (written_by (λ fault. First fault.written) result) first then
ended {U = U} contents first now then to text result ok none way kept = by result
  where
    all : text ≡ way.out
    all = way.whole ∙ ap (λ (t : List ℕ). way.out ++ t) (way.held ok ∙ ap (λ (t : List ℕ). t ++ []) none)
        ∙ append-nil way.out

    grown : Appends (contents first) (contents then) text
    grown = subst (Appends (contents first) (contents then)) (sym all)
        (Appends-kept (contents first) (contents now) (contents then) way.out way.grown kept)

    by : (result : Result U EmitFault) → IfErr result (λ fault. fault.written ≡ to.written)
        → HasWritten contents (λ t. t ≡ text) (written_by (λ fault. First fault.written) result) first then
    by (Ok done) at = (text, refl, grown)
    by (Err fault) at =
        let exact : fault.written ≡ length text = at ∙ way.counted ∙ ap length (sym all) in
        (text, refl, omega (arith, exact), rw (take_all fault.written text (omega (arith, exact))) grown)

-- ---- parts

-- one part after another
pub put-then : {W : Type 0} {contents : W → Option (List ℕ)} {a b d : W} {p q r : Pending} {x y : List ℕ} → Puts contents a b p q x
    → Puts contents b d q r y → Puts contents a d p r (x ++ y)
put-then {contents = contents} {a = a} {p = p} {x = x} {y = y} one other = record {
  goes = λ before text left way. other.goes before text left
      (one.goes before text (y ++ left) (subst (IsOnItsWay before (contents a) p text) (append_assoc x y left) way));
}

-- the same bytes
pub put-same : {W : Type 0} {contents : W → Option (List ℕ)} {a b : W} {p q : Pending} {x y : List ℕ} → x ≡ y → Puts contents a b p q x
    → Puts contents a b p q y
put-same {contents = contents} {a = a} {b = b} {p = p} {q = q} same puts = subst (Puts contents a b p q) same puts

-- nothing is put
pub put-none : {W : Type 0} {contents : W → Option (List ℕ)} {a : W} {p : Pending} → Puts contents a a p p []
put-none = record { goes = λ before text left way. way }

-- once a write failed, that counts as any bytes
pub put-failed : {W : Type 0} {contents : W → Option (List ℕ)} {a : W} {p : Pending} {x : List ℕ} → p.failed ≡ true
    → Puts contents a a p p x
put-failed failed = record {
  goes = λ before text left way. record {
    out = way.out;
    rest = way.rest;
    grown = way.grown;
    counted = way.counted;
    whole = way.whole;
    held = λ still. absurd (let none : true ≡ false = sym failed ∙ still in cc);
  };
}

-- a text that is put from its beginning
pub put-all : {W : Type 0} {contents : W → Option (List ℕ)} {a b : W} {p q : Pending} {text : List ℕ} → p ≡ nothing_put
    → Puts contents a b p q text
    → IsOnItsWay (contents a) (contents b) q text []
put-all {contents = contents} {a = a} {p = p} {text = text} fresh puts =
    puts.goes (contents a) text [] (record {
      out = [];
      rest = text;
      grown = Appends-nil (contents a);
      counted = ap (λ (t : Pending). t.written) fresh;
      whole = refl;
      held = λ ok. sym (append-nil text) ∙ ap (λ (t : Pending). t.held ++ (text ++ [])) (sym fresh);
    })

-- the lines of the element at i, after those of the elements before it
pub put-next : {W : Type 0} {contents : W → Option (List ℕ)} {a b d : W} {p q r : Pending} {X : Type 0} (f : X → List ℕ) (xs : List X)
    (i : ℕ) (e x : X) → i < length xs → x ≡ get_or xs i e
    → Puts contents a b p q (flat_map f (take i xs)) → Puts contents b d q r (f x) → Puts contents a d p r (flat_map f (take (i + 1) xs))
put-next f xs i e x within is one other =
    let more : flat_map f (take i xs) ++ f x ≡ flat_map f (take (i + 1) xs) =
    flat_map_more f [] (take i xs) x ∙ ap (λ (y : _). flat_map f (take i xs ++ y ∷ [])) is
    ∙ ap (flat_map f) (sym (take_more xs i e within)) in
    put-same more (put-then one other)

-- after the last those of all
pub put-last : {W : Type 0} {contents : W → Option (List ℕ)} {a b : W} {p q : Pending} {X : Type 0} (f : X → List ℕ) (xs : List X) (i : ℕ)
    → length xs ≤ i
    → Puts contents a b p q (flat_map f (take i xs)) → Puts contents a b p q (flat_map f xs)
put-last f xs i over puts = put-same (ap (flat_map f) (take_all i xs over)) puts

-- the line of the number i, after those of the numbers below it
pub put-line : {W : Type 0} {contents : W → Option (List ℕ)} {a b d : W} {p q r : Pending} (f : ℕ → List ℕ) (i : ℕ)
    → Puts contents a b p q (flat_map f (range_with_len 0 i)) → Puts contents b d q r (f i)
    → Puts contents a d p r (flat_map f (range_with_len 0 (i + 1)))
put-line f i one other =
    let more : range_with_len 0 (i + 1) ≡ range_with_len 0 i ++ i ∷ [] =
    rw add-one (range_more 0 i ∙ ap (λ (k : ℕ). range_with_len 0 i ++ k ∷ []) (zero-add i)) in
    put-same (flat_map_more f [] (range_with_len 0 i) i ∙ ap (flat_map f) (sym more)) (put-then one other)

-- those of all numbers below n
pub put-lines : {W : Type 0} {contents : W → Option (List ℕ)} {a b : W} {p q : Pending} (f : ℕ → List ℕ) (i n : ℕ) → i ≡ n
    → Puts contents a b p q (flat_map f (range_with_len 0 i))
    → Puts contents a b p q (flat_map f (range_with_len 0 n))
put-lines f i n same puts = put-same (ap (λ k. flat_map f (range_with_len 0 k)) same) puts

-- what is written of a text is written of one with any property that follows
pub written-map : {W : Type 0} (contents : W → Option (List ℕ)) (P Q : List ℕ → Type 0) (written : Written) (old new : W)
    → ((text : List ℕ) → P text → Q text) → HasWritten contents P written old new → HasWritten contents Q written old new
written-map contents P Q Whole old new f (text, is, grows) = (text, f text is, grows)
written-map contents P Q (First count) old new f (text, is, few, grows) = (text, f text is, few, grows)
written-map contents P Q Nothing old new f same = same

-- a vector that was empty holds the text that was written to it
pub text-held : (old held text whole : List ℕ) → old ≡ [] → held ≡ old ++ text → text ≡ whole → held ≡ whole
text-held old held text whole none grows is = grows ∙ ap (λ (t : List ℕ). t ++ text) none ∙ is

-- Known bytes that grow twice.

appends-more : (a b c : Option (List ℕ)) (xs ys : List ℕ) → Appends a b xs → Appends b c ys → Appends a c (xs ++ ys)
appends-more None b c xs ys p q = tt
appends-more (Some a) None c xs ys p q = absurd p
appends-more (Some a) (Some b) None xs ys p q = q
appends-more (Some a) (Some b) (Some c) xs ys p q = q ∙ ap (λ (t : List ℕ). t ++ ys) p ∙ append_assoc a xs ys

-- the next n bytes of a text, after its first i
pub front_more : (old now new : Option (List ℕ)) (text : List ℕ) (i n : ℕ) → n ≤ length text - i
    → Appends old now (take i text) → Appends now new (take n (take (length text - i) (drop i text))) → Appends old new (take (i + n) text)
front_more old now new text i n within front next =
    let cut : take n (take (length text - i) (drop i text)) ≡ take n (drop i text) = take-take n (length text - i) (drop i text) within in
    rw (take-add i n text) (appends-more old now new (take i text) (take n (drop i text)) front (rw cut at next))
