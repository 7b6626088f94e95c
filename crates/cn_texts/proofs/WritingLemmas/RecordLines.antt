-- Lines: of the records of epochs, one after another, of answers, and of tight epochs.
use Rattle.cn_texts.proofs.Common.{◌≡◌, ℕ, ◌+◌, ◌<◌, ◌≤◌, Bool, List, [], ◌∷◌, ◌++◌, drop, get_or, length, take, ap, ◌∙◌, refl, sym, subst, arith, flat_map, sum_by-cons, sum_by-drop_more, drop_more, drop_of_length-le, when, EpochRecord, BatchEpoch, clients_of_epochs, AreRecordsOf, IsRecordOfEpoch, clients_of_records, ap₂, AllZip, Answer, Command, answer_line, answer_lines, map, append_assoc, sum_by, length-map, codes, decimal, line, tight_counts, tight_end, tight_head, tight_line}
use Rattle.std.proofs.lemmas.List.Folds.{fold-map}

pub when-le : (carry : Bool) (n : ℕ) → when carry n ≤ n
when-le carry n = grind arith

-- the record of the first of some epochs, and those of the others, whose lines follow
pub record FirstRecord (lines : EpochRecord → List ℕ) (carry : Bool) (w m : ℕ) (e : BatchEpoch) (epochs : List BatchEpoch)
    (records : List EpochRecord) (holders : List ℕ) : Type 0 where
  pub first : EpochRecord
  pub later : List EpochRecord
  pub mine : IsRecordOfEpoch w m e (take (length e.clients.items) holders) first
  pub rest : AreRecordsOf carry w (when carry (m + length e.clients.items)) epochs later (drop (length e.clients.items) holders)
  pub parts : flat_map lines records ≡ lines first ++ flat_map lines later

split-first : (lines : EpochRecord → List ℕ) (carry : Bool) (w m : ℕ) (e : BatchEpoch) (epochs : List BatchEpoch)
    (records : List EpochRecord) (holders : List ℕ)
    → AreRecordsOf carry w m (e ∷ epochs) records holders → FirstRecord lines carry w m e epochs records holders
unfolding AreRecordsOf
split-first lines carry w m e epochs [] holders are = absurd are
split-first lines carry w m e epochs (r ∷ records) holders (mine, rest) =
    record { first = r; later = records; mine = mine; rest = rest; parts = refl }

-- of the epochs from a place on
pub first-record : (lines : EpochRecord → List ℕ) (carry : Bool) (w m : ℕ) (epochs : List BatchEpoch) (i : ℕ) (e : BatchEpoch)
    (records : List EpochRecord) (holders : List ℕ)
    → i < length epochs → e ≡ get_or epochs i e → AreRecordsOf carry w m (drop i epochs) records holders
    → FirstRecord lines carry w m e (drop (i + 1) epochs) records holders
first-record lines carry w m epochs i e records holders within is are =
    let more : drop i epochs ≡ e ∷ drop (i + 1) epochs =
    drop_more epochs i e within ∙ ap (λ (x : BatchEpoch). x ∷ drop (i + 1) epochs) (sym is) in
    split-first lines carry w m e (drop (i + 1) epochs) records holders
    (subst (λ (es : List BatchEpoch). AreRecordsOf carry w m es records holders) more are)

no-record : (lines : EpochRecord → List ℕ) (carry : Bool) (w m : ℕ) (records : List EpochRecord) (holders : List ℕ)
    → AreRecordsOf carry w m [] records holders
    → flat_map lines records ≡ []
unfolding AreRecordsOf
no-record lines carry w m [] holders are = refl
no-record lines carry w m (r ∷ records) holders are = absurd are

-- the clients of an epoch, and of those after it
pub first-clients : (epochs : List BatchEpoch) (i : ℕ) (e : BatchEpoch) → i < length epochs → e ≡ get_or epochs i e
    → clients_of_epochs (drop i epochs) ≡ length e.clients.items + clients_of_epochs (drop (i + 1) epochs)
first-clients epochs i e within is =
    omega (
      arith,
      ap (λ (x : BatchEpoch). length x.clients.items) is,
      sum_by-drop_more (λ (x : BatchEpoch). length x.clients.items) epochs i e within,
    )

-- from the end on there are none
pub last-record : (lines : EpochRecord → List ℕ) (carry : Bool) (w m : ℕ) (epochs : List BatchEpoch) (i : ℕ) (records : List EpochRecord)
    (holders : List ℕ)
    → length epochs ≤ i → AreRecordsOf carry w m (drop i epochs) records holders → flat_map lines records ≡ []
last-record lines carry w m epochs i records holders over are =
    no-record lines carry w m records holders
    (subst (λ (es : List BatchEpoch). AreRecordsOf carry w m es records holders) (drop_of_length-le epochs over) are)

-- there are as many records as epochs, of as many clients
pub as-many-records : (carry : Bool) (w m : ℕ) (epochs : List BatchEpoch) (records : List EpochRecord) (holders : List ℕ)
    → AreRecordsOf carry w m epochs records holders
    → (length records ≡ length epochs) × (clients_of_records records ≡ clients_of_epochs epochs)
unfolding AreRecordsOf
as-many-records carry w m [] [] holders are = (refl, refl)
as-many-records carry w m [] (r ∷ records) holders are = absurd are
as-many-records carry w m (e ∷ epochs) [] holders are = absurd are
as-many-records carry w m (e ∷ epochs) (r ∷ records) holders (mine, rest) =
    let (many, clients) = as-many-records carry w (when carry (m + length e.clients.items)) epochs records
    (drop (length e.clients.items) holders) rest in (
      omega (arith, many),
      omega (
        arith,
        clients,
        mine.clients,
        sum_by-cons (λ (x : EpochRecord). x.clients) r records,
        sum_by-cons (λ (x : BatchEpoch). length x.clients.items) e epochs,
      ),
    )

-- Answers that have the same lines.

-- answers have the same lines if each has those of the other in its place
pub lines-by : (R : Answer → Answer → Type 0) (width : ℕ)
    → ((answer other : Answer) → R answer other → (command : Command) → answer_line width command answer ≡ answer_line width command other)
    → (commands : List Command) (answers others : List Answer) → AllZip R answers others
    → answer_lines width commands answers ≡ answer_lines width commands others
lines-by R width same [] answers others all = refl
lines-by R width same (command ∷ commands) [] [] all = refl
lines-by R width same (command ∷ commands) (answer ∷ answers) (other ∷ others) (here, later) =
    ap₂ (λ (xs ys : List ℕ). xs ++ ys) (same answer other here command) (lines-by R width same commands answers others later)
lines-by R width same (command ∷ commands) [] (other ∷ others) all = absurd all
lines-by R width same (command ∷ commands) (answer ∷ answers) [] all = absurd all

-- The line of a tight epoch, in parts.

-- a line of a word and numbers: each number after a space
line-counts : (word : List ℕ) (counts : List ℕ) → line (word ∷ map decimal counts) ≡ word ++ (tight_counts counts ++ codes "\n")
line-counts word [] = refl
line-counts word (count ∷ counts) =
    ap (λ (l : List ℕ). word ++ 32 ∷ l) (line-counts (decimal count) counts
    ∙ sym (append_assoc (decimal count) (tight_counts counts) (codes "\n")))

pub line-whole : (number clients : ℕ) (counts : List ℕ)
    → tight_head number clients ++ (tight_counts counts ++ codes "\n") ≡ tight_line (number, clients, counts)
unfolding tight_head
line-whole number clients counts =
    let e : line (codes "counts" ∷ map decimal counts) ≡ codes "counts" ++ (tight_counts counts ++ codes "\n") =
    line-counts (codes "counts") counts in
    rw e (simp append_assoc refl)

-- the end line, by the numbers of what the epochs are made of
sum-mapped : {X : Type 0} (f : X → ℕ × ℕ × List ℕ) (xs : List X)
    → sum_by (λ (number, clients, counts). clients) (map f xs) ≡ sum_by (λ x. (f x).1) xs
sum-mapped f xs = fold-map (λ (a : ℕ) (t : ℕ × ℕ × List ℕ). a + t.1) f 0 xs

pub end-same : {X : Type 0} (f : X → ℕ × ℕ × List ℕ) (xs : List X) (n k : ℕ) → n ≡ length xs → k ≡ sum_by (λ x. (f x).1) xs
    → tight_end n k ≡ tight_end (length (map f xs)) (sum_by (λ (number, clients, counts). clients) (map f xs))
end-same f xs n k many clients = ap₂ tight_end (many ∙ sym (length-map xs f)) (clients ∙ sym (sum-mapped f xs))
