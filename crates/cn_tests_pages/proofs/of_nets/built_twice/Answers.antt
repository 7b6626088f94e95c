use Rattle.cn_nets.proofs.CallerLemmas.{one-network}
use Rattle.cn_tests_pages.proofs.of_nets.built_twice.Goals as goal

pub returns : goal.returns
returns c = one-network c.args.net.now c.in_ok-one.one c.in_ok-other.other c.in_ok-one.ensures.ok c.in_ok-other.ensures.ok
