-- A yard before and after each change of its records.
use Rattle.cn_yard.proofs.Common.{◌≡◌, ℕ, ◌+◌, ◌-◌, ◌<◌, ◌≤◌, max, List, length, get_or, refl, sym, ap, ◌∙◌, arith, subst, Some, vec_len, Vec, Global, IsSome, with_items, get_or_read, with_items_is, Inside, Keeps, Line, Record, Yard, client_of, count_of, line_of, lists_of, moved, nat_tests, no_line, standing, tokens_in, wire_of, yard_of, MOST_TOKENS, Admits, Moves, Releases, IsClient, Fills, IsLined, IsMore, IsMove, SameBut, when, eqb}
use Rattle.cn_yard.proofs.Changes.{Shifted, admits-of, links-client, lists-same, moves-of, releases-of}
use Rattle.cn_yard.proofs.AllLines.{last-below, last-there}
use Rattle.cn_yard.proofs.Wires.{live, standing-live, tokens-are}
use Rattle.cn_yard.proofs.There.{second}

-- ---- a record is moved

-- what `relink` leaves of a yard
pub record Relinked (y z : Inside) (t to : ℕ) : Type 0 where
  pub wires : z.wires ≡ y.wires
  pub lined : (order : ℕ → List ℕ) → IsLined y.records.items y.lines.items y.marks.items order
      → IsLined z.records.items z.lines.items z.marks.items (moved order t to)
  pub move : IsMove y.records.items y.lines.items z.records.items z.lines.items t to

pub keeps-relinked : {y z : Inside} {order : ℕ → List ℕ} {t to : ℕ} → Keeps y order → Relinked y z t to
    → Keeps z (moved order t to)
keeps-relinked {y} {z} {order} {t} {to} k re =
    let as_many = re.move.as_many in let wires = re.wires in let old = k.wires in
    record { lined = re.lined order k.lined; wires = omega arith }

shifted : {y z : Inside} {order : ℕ → List ℕ} {t to : ℕ} → Keeps y order → Relinked y z t to → Shifted y z order t to
shifted k re = record {
  old = k;
  new = keeps-relinked k re;
  wires = re.wires;
  clients = λ n o. re.move.client n;
  len = re.move.len;
  count = re.move.count;
}

pub moves-relinked : {y z : Inside} {order : ℕ → List ℕ} {t to from client : ℕ} → Keeps y order → Relinked y z t to
    → to < y.wires → standing (lists_of y) t ≡ Some (from, client) → Moves (yard_of y) (yard_of z) t client to
moves-relinked {y} {z} {order} {t} {to} {from} {client} k re h stands =
    let (within, on_wire) = live y order k t (rw stands refl) in
    let who : client ≡ client_of z.records.items t =
    second (sym stands ∙ standing-live y order k t within on_wire) ∙ sym (re.move.client t) in
    rw who (moves-of y z order t to (shifted k re) h on_wire)

pub releases-relinked : {y z : Inside} {order : ℕ → List ℕ} {t : ℕ} → Keeps y order → Relinked y z t y.wires
    → IsSome (standing (lists_of y) t) → Releases (yard_of y) (yard_of z) t
releases-relinked {y} {z} {order} {t} k re stands =
    releases-of y z order t (shifted k re) (live y order k t stands).1

-- ---- free records are added

-- what `fill` leaves of a yard
pub record Filled (y z : Inside) : Type 0 where
  pub wires : z.wires ≡ y.wires
  pub lined : Fills y.records.items y.lines.items y.marks.items z.records.items z.lines.items z.marks.items y.wires
  pub more : IsMore y.records.items y.lines.items z.records.items z.lines.items y.wires

-- the numbers on the lines then
pub filled : {y z : Inside} {order : ℕ → List ℕ} → Keeps y order → Filled y z
    → (order' : ℕ → List ℕ) × Keeps z order' × SameBut y.wires order order'
filled {y} {z} {order} k fi =
    let (order', lined, same) = fi.lined order k.lined in
    let as_many = fi.more.as_many in let wires = fi.wires in let old = k.wires in
    (order', record { lined = lined; wires = omega arith }, same)

-- the wires have the tokens that they had
pub filled-lists : {y z : Inside} {order : ℕ → List ℕ} → Keeps y order → Filled y z → lists_of z ≡ lists_of y
filled-lists {y} {z} {order} k fi =
    let (order', k', same) = filled k fi in
    lists-same y z order order' k k' fi.wires same fi.more.client

-- there is room for them
pub room-for : (y : Inside) (order : ℕ → List ℕ) (wanted : ℕ) → Keeps y order → tokens_in (lists_of y) + wanted ≤ MOST_TOKENS
    → length y.records.items + (wanted - count_of y.lines.items y.wires) ≤ MOST_TOKENS
room-for y order wanted k room = let few = k.lined.few in let tokens = tokens-are y order k in grind arith

-- ---- a free record becomes a token

-- what `set_client` leaves of a yard
pub record Renamed (y z : Inside) (t client : ℕ) : Type 0 where
  pub wires : z.wires ≡ y.wires
  pub new : IsClient y.records.items z.records.items t client
  pub lines : z.lines.items ≡ y.lines.items
  pub marks : z.marks.items ≡ y.marks.items

pub keeps-renamed : {y z : Inside} {order : ℕ → List ℕ} {t client : ℕ} → Keeps y order → Renamed y z t client
    → Keeps z order
keeps-renamed {y} {z} {order} {t} {client} k re =
    let links = links-client y.records.items y.lines.items z.records.items order t client k.lined.links re.new in
    record {
      lined = rw (re.lines, re.marks) (record {
        links = links;
        few = rw re.new.len k.lined.few;
        marks = k.lined.marks;
        room = k.lined.room;
        short = k.lined.short;
      });
      wires = rw (re.lines, re.wires) k.wires;
    }

-- the last of the free records
pub last-free : (y : Inside) (order : ℕ → List ℕ) → Keeps y order → 1 ≤ count_of y.lines.items y.wires
    → ((line_of y.lines.items y.wires).last < length y.records.items)
    × (wire_of y.records.items (line_of y.lines.items y.wires).last ≡ y.wires)
last-free y order k some =
    let as_many = k.wires in
    let within : y.wires < length y.lines.items = omega arith in
    let there = last-there (line_of y.lines.items y.wires) (order y.wires) (k.lined.links.linked.ends y.wires within) some in
    let once = k.lined.links.linked.once (line_of y.lines.items y.wires).last y.wires within in
    (last-below y.records.items y.lines.items order k.lined.links.linked y.wires within some, (grind (arith, nat_tests)))

-- as the code reads the line
pub free-read : (y : Inside) (order : ℕ → List ℕ) (line : Line) → Keeps y order → 1 ≤ count_of y.lines.items y.wires
    → line ≡ get_or y.lines.items y.wires line → (line.last < length y.records.items) × (wire_of y.records.items line.last ≡ y.wires)
free-read y order line k some at =
    let as_many = k.wires in
    let e : line.last ≡ (line_of y.lines.items y.wires).last =
    ap (λ (l : Line). l.last) (get_or_read y.lines.items y.wires line (omega arith) at no_line) in
    rw e (last-free y order k some)

-- a free record that was moved to a wire, and then got a client, is a token that came in
pub admits-renamed : {old : Yard} {y m z : Inside} {order : ℕ → List ℕ} {t to client : ℕ} → Keeps y order
    → lists_of y ≡ old.lists → count_of y.lines.items y.wires ≡ max 1 old.spare → Relinked y m t to
    → Renamed m z t client → wire_of y.records.items t ≡ y.wires → to < y.wires → Admits old (yard_of z) t client to
admits-renamed {old} {y} {m} {z} {order} {t} {to} {client} k same spare re na free h =
    let who = na.new.client t in
    let this : client_of z.records.items t ≡ client = grind (arith, nat_tests) in
    rw (← this) (admits-of y z order t to (record {
      old = k;
      new = keeps-renamed (keeps-relinked k re) na;
      wires = na.wires ∙ re.wires;
      clients = λ n o. let c = na.new.client n in let d = re.move.client n in grind (arith, nat_tests);
      len = na.new.len ∙ re.move.len;
      count = λ u. ap (λ ls. count_of ls u + when (eqb (wire_of y.records.items t) u) 1) na.lines ∙ re.move.count u;
    }) h old same spare free)

-- ---- what the bodies leave in the fields

-- a yard with the lists that `relink` hands back
abbrev pub after : Inside → List Record → List Line → List ℕ → Inside
after y records lines marks = record {
  wires = y.wires;
  records = with_items y.records records;
  lines = with_items y.lines lines;
  marks = with_items y.marks marks;
}

pub relinked-by : (y : Inside) {records records' : List Record} {lines lines' : List Line} {marks : List ℕ}
    (marks' : List ℕ) {n t to : ℕ} → n ≡ t
    → records ≡ y.records.items → lines ≡ y.lines.items → marks ≡ y.marks.items → length records ≡ vec_len y.records
    → length lines ≡ vec_len y.lines → length marks ≡ vec_len y.marks
    → IsMove records lines records' lines' n to
    → ((order : ℕ → List ℕ) → IsLined records lines marks order → IsLined records' lines' marks' (moved order n to))
    → length marks' ≡ length marks
    → Relinked y (after y records' lines' marks') t to
relinked-by y {records} {records'} {lines} {lines'} {marks} marks' {n} {t} {to} e r l m rl ll ml move lined words =
    let a : (with_items y.records records').items ≡ records' = with_items_is y.records records' (move.len ∙ rl) in
    let b : (with_items y.lines lines').items ≡ lines' = with_items_is y.lines lines' (move.as_many ∙ ll) in
    let d : (with_items y.marks marks').items ≡ marks' = with_items_is y.marks marks' (words ∙ ml) in
    let move' : IsMove y.records.items y.lines.items records' lines' t to = rw (← r, ← l, ← e) move in
    record {
      wires = refl;
      lined = λ order is. rw (a, b, d) (subst (λ (k : ℕ). IsLined records' lines' marks' (moved order k to)) e
          (lined order (rw (r, l, m) is)));
      move = rw (a, b) move';
    }

-- and with those of `fill`
abbrev pub after-fill : Inside → Vec Record Global → List Line → List ℕ → Inside
after-fill y records lines marks = record {
  wires = y.wires;
  records = records;
  lines = with_items y.lines lines;
  marks = with_items y.marks marks;
}

pub filled-by : (y : Inside) {lines lines' : List Line} {marks : List ℕ} {records' : Vec Record Global}
    (marks' : List ℕ)
    → lines ≡ y.lines.items → marks ≡ y.marks.items → length lines ≡ vec_len y.lines → length marks ≡ vec_len y.marks
    → IsMore y.records.items lines records'.items lines' y.wires
    → Fills y.records.items lines marks records'.items lines' marks' y.wires → length marks' ≡ length marks
    → Filled y (after-fill y records' lines' marks')
filled-by y {lines} {lines'} {marks} {records'} marks' l m ll ml more lined words =
    let b : (with_items y.lines lines').items ≡ lines' = with_items_is y.lines lines' (more.as_many ∙ ll) in
    let d : (with_items y.marks marks').items ≡ marks' = with_items_is y.marks marks' (words ∙ ml) in
    let more' : IsMore y.records.items y.lines.items records'.items lines' y.wires = rw (← l) more in
    record {
      wires = refl;
      lined = λ order is. rw (b, d) (lined order (rw (l, m) is));
      more = rw b more';
    }

-- nothing was added: a caller sees the yard as it was
pub unfilled : (y : Inside) (records' : Vec Record Global) (lines' : List Line) (marks' : List ℕ) → length lines' ≡ vec_len y.lines
    → (records'.items ≡ y.records.items) × (lines' ≡ y.lines.items) → yard_of (after-fill y records' lines' marks') ≡ yard_of y
unfilled y records' lines' marks' len (r, l) =
    let b : (with_items y.lines lines').items ≡ y.lines.items = with_items_is y.lines lines' len ∙ l in
    rw (r, b) refl

-- and with the records of `set_client`
abbrev pub with_records : Inside → List Record → Inside
with_records y records = record { wires = y.wires; records = with_items y.records records; lines = y.lines; marks = y.marks }

pub renamed-by : (y : Inside) {records records' : List Record} {t client : ℕ} → records ≡ y.records.items
    → length records ≡ vec_len y.records → IsClient records records' t client → Renamed y (with_records y records') t client
renamed-by y {records} {records'} {t} {client} r rl new =
    let a : (with_items y.records records').items ≡ records' = with_items_is y.records records' (new.len ∙ rl) in
    let new' : IsClient y.records.items records' t client = rw (← r) new in
    record { wires = refl; new = rw a new'; lines = refl; marks = refl }
