-- Two walks side by side, and their lanes taken together.
use Rattle.cn_walk.proofs.Common.{◌≡◌, ℕ, ◌+◌, ◌-◌, ◌*◌, ◌/◌, ◌<◌, ◌≤◌, subst, List, ◌++◌, length, length-append, max, min, ap, ◌∙◌, arith, append-nil, div-mul-le_self, mul-le-mul_right, append_assoc, map-append, le-div, sum_by-append, Client, Lanes, Grant, AreOf, AreReady, HasNothing, IsOne, IsPair, IsReady, first_position, together, whole, FloorValue, LaneValue, empty_lane, with_rooms, after_look, after_split, split_off, WalksAll, nobody-in}
use Rattle.cn_walk.specs.declared.forking.Lanes.TheVariants.{One, Fork'}

-- how many forks there are
abbrev pub nodes : Lanes → ℕ
nodes (One lane worker) = 0
nodes (Fork' at p left q right) = nodes left + nodes right + 1

pub both-walked : (a b c d : LaneValue) (xs ys : List Client) → HasNothing b → WalksAll a c xs → WalksAll b d ys
    → WalksAll (together a b) (together c d) (xs ++ ys)
both-walked a b c d xs ys none p q =
    let (more, grants, for) = p.grants in
    let (later, grants2, for2) = q.grants in
    let many : length d.view.grants ≡ length later = rw (grants2, none.grants) in
    record {
      home = p.home;
      out = p.out;
      quota = omega (arith, p.quota, q.quota, length-append xs ys);
      room = omega (arith, p.room, length-append xs ys, many, for2.as_many, ap length none.grants);
      spare = p.spare;
      entries = simp (p.entries, q.entries, none.entries, map-append, append-nil, append_assoc);
      came = simp (p.came, q.came, none.came, append-nil, append_assoc);
      seen = λ i. max (p.seen i) (q.seen i);
      grants = (
        more ++ later,
        simp (grants, grants2, none.grants, append-nil, append_assoc),
        record {
          as_many = omega (arith, length-append more later, length-append xs ys, for.as_many, for2.as_many);
          as_often = λ id. simp (sum_by-append, for.as_often id, for2.as_often id);
        },
      );
    }

-- lanes that are ready are so as one
pub whole-ready : (home : FloorValue) (n hand : ℕ) (lanes : Lanes) → AreReady home n hand lanes → IsReady home n hand (whole lanes)
whole-ready home n hand (One lane worker) r = r
whole-ready home n hand (Fork' at p left q right) r = r.0

-- a later worker's clients come later
pub rises : (k w a b : ℕ) → 0 < w → a ≤ b → first_position k w a ≤ first_position k w b
rises k w a b some h = le-div (a * k / w) (b * k) w some
    (omega (arith, div-mul-le_self (a * k) w, mul-le-mul_right k h))

-- workers before, or after, who have no clients: the lanes are of them too
pub none_before : (k w from middle to : ℕ) (lanes : Lanes) → from ≤ middle → first_position k w middle ≡ first_position k w from
    → AreOf k w middle to lanes → AreOf k w from to lanes
none_before k w from middle to (One lane worker) before same (low, high, first, last) =
    (omega (arith, before, low), high, first ∙ same, last)
none_before k w from middle to (Fork' at p left q right) before same (m, low, high, is, some, less, one, two) =
    let rest = none_before k w from middle m left before same one in
    (m, omega (arith, before, low), high, omega (arith, is, same), some, omega (arith, less, same), rest, two)

pub none_after : (k w from middle to : ℕ) (lanes : Lanes) → middle ≤ to → first_position k w middle ≡ first_position k w to
    → AreOf k w from middle lanes → AreOf k w from to lanes
none_after k w from middle to (One lane worker) after same (low, high, first, last) = (low, omega (arith, after, high), first, last ∙ same)
none_after k w from middle to (Fork' at p left q right) after same (m, low, high, is, some, less, one, two) =
    (m, low, omega (arith, after, high), is, some, omega (arith, less, same), one, none_after k w m middle to right after same two)

-- a lane for which more is reserved, of which some is split off, and the one that is split off
pub reserved-nothing : (n records : ℕ) (a b : LaneValue) → HasNothing a → b ≡ with_rooms n records a → HasNothing b
reserved-nothing n records a b is same = grind arith

pub left-nothing : (q : ℕ) (a b : LaneValue) → HasNothing a → b ≡ record a { view = after_look (after_split q a.view) } → HasNothing b
left-nothing q a b is same = grind arith

pub right-nothing : (q : ℕ) (a b : LaneValue) → b ≡ record (empty_lane a.home q) { view = after_look (split_off q a.view) } → HasNothing b
right-nothing q a b same = grind (arith, nobody-in)

-- what a pair of parts that are ready is ready for
pub pair-ready : (home : FloorValue) (n at r hand : ℕ) (left right lanes : Lanes) → IsPair at left right lanes
    → n ≡ at + r
    → n ≤ (whole left).room → min n hand ≤ (whole left).yard.spare
    → AreReady home at hand left → AreReady home r hand right → AreReady home n hand lanes
pair-ready home n at r hand left right lanes is all room spare a b =
    let x = whole-ready home at hand left a in
    let y = whole-ready home r hand right b in
    let rest : r ≡ n - at = omega arith in
    let both : IsReady home n hand (together (whole left) (whole right)) = record {
      home_is = x.home_is;
      nothing = record {
        inside = x.nothing.inside;
        entries = λ i. x.nothing.entries i ++ y.nothing.entries i;
        came = λ i. x.nothing.came i ++ y.nothing.came i;
        grants = λ i. x.nothing.grants i ++ y.nothing.grants i;
      };
      quota = omega (arith, x.quota, y.quota);
      room = omega (arith, ap (λ (gs : List Grant). length gs) y.nothing.grants);
      spare = spare;
    } in
    is.ready home n hand both (omega arith) a (subst (λ (m : ℕ). AreReady home m hand right) rest b)

-- one worker has a single lane
pub one-worker : (k w from to : ℕ) (lanes : Lanes) → to ≤ from + 1 → AreOf k w from to lanes → IsOne lanes
one-worker k w from to (One lane worker) few is = tt
one-worker k w from to (Fork' at p left q right) few (m, low, high, is, some, less, one, two) = absurd (omega (arith, few, low, high))
