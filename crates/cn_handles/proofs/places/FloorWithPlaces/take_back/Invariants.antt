use Rattle.cn_handles.proofs.Common.{IsNewSearch}
use Rattle.cn_handles.proofs.places.FloorWithPlaces.take_back.Given as goal

-- so many searches were in vain
abbrev pub invariant-loop-vain : goal.invariant-loop-vain
invariant-loop-vain l = IsNewSearch 1 l.vain l.search
