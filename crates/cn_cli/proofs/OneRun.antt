-- Options name one run at most.
use Rattle.cn_cli.proofs.Common.{◌≡◌, ◌<◌, ◌^◌, ◌↔◌, ℕ, List, Result, Err, codes, arith, lit<, subst, IsErrOf, Row, MOST_HAND, MOST_WORKERS, GivesNumber, NamesNoRun}
use Rattle.cn_spec.specs.Workers.{HandFits, WorkersFit}
use Rattle.cn_cli.specs.Options.{Settings}
use Rattle.cn_cli.specs.declared.options.OptionFault.{OptionFault}
use Rattle.cn_cli.specs.declared.options.OptionFault.TheVariants.{Hand, Workers}
use Rattle.cn_cli.proofs.WordNumbers.{one_number}

pub few-workers : (workers : ℕ) → WorkersFit workers → workers < 2 ^ 32
few-workers workers within =
    let all : MOST_WORKERS < 2 ^ 32 = lit< tt in
    omega (arith, within.1)

pub small-hand : (hand : ℕ) → HandFits hand → hand < 2 ^ 32
small-hand hand within =
    let all : MOST_HAND < 2 ^ 32 = lit< tt in
    omega (arith, within.1)

-- where these numbers are refused, no settings that are named are within their limits
pub refused-numbers : (given : List Row) (workers hand : ℕ) (answer : Result Settings OptionFault) (fault : OptionFault)
    → GivesNumber given (codes "workers") workers → GivesNumber given (codes "hand") hand
    → (IsErrOf answer Workers ↔ (¬ WorkersFit workers)) → (IsErrOf answer Hand ↔ (WorkersFit workers × (¬ HandFits hand)))
    → answer ≡ Err fault → NamesNoRun given
refused-numbers given workers hand answer Workers gives_workers gives_hand few small is settings names within =
    let same = one_number given (codes "workers") settings.workers workers (names.workers, few-workers settings.workers within.1)
    gives_workers in
    few.0 is (subst WorkersFit same within.1)
refused-numbers given workers hand answer Hand gives_workers gives_hand few small is settings names within =
    let same = one_number given (codes "hand") settings.hand hand (names.hand, small-hand settings.hand within.2) gives_hand in
    (small.0 is).1 (subst HandFits same within.2)
