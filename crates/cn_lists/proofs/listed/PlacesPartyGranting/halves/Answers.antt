use Rattle.cn_lists.proofs.Common.{ℕ, ◌+◌, ◌-◌, ◌*◌, ◌/◌, ◌<◌, ◌≤◌, ◌≡◌, ap, ◌∙◌, arith, every_second}
use Rattle.cn_lists.proofs.Groups.{placed-even, placed-odd, within-part}
use Rattle.cn_lists.proofs.listed.PlacesPartyGranting.halves.Goals as goal

pub returns : goal.returns
returns c frame tokens stand =
    let p = c.args.self in
    let n : ℕ = c.args.count in
    let some : 2 ≤ n = c.requires.some in
    let within = stand.within (omega (arith, some)) in (
      record {
        are = ap (every_second 0) stand.are ∙ placed-even frame.clients p.first p.gap n;
        within = λ _. within-part p.first p.gap (n - n / 2 - 1) (n - 1) _ (omega arith) within;
        few = stand.few;
      },
      record {
        are = ap (every_second 1) stand.are ∙ placed-odd frame.clients p.first p.gap n;
        within = λ _. odd p.first p.gap (n / 2) (n - 1) _ (omega (arith, some)) (omega (arith, some)) within;
        few = stand.few;
      },
    )
  where
    odd : (x s h m long : ℕ) → 0 < h → 2 * h ≤ m + 1 → x + s * m < long → x + s + 2 * s * (h - 1) < long
    odd x s h m long some less is =
        let next : m ≡ 1 + (m - 1) = omega (arith, some, less) in
        let part : s * m ≡ s + s * (m - 1) = ap (λ (k : ℕ). s * k) next ∙ omega arith in
        within-part (x + s) s (h - 1) (m - 1) long (omega (arith, less)) (omega (arith, is, part))
