-- What proofs of other crates cite of this one. They cite nothing else of proofs/.

-- lists of keys with values
pub use Rattle.cn_yard.proofs.Keyed.{count-pair-found, count-pair-push, count-pair-set, count-push, count-set, last_on-sum, lookup-push, lookup-set, times-absent, times-push, times-set}
-- where a token stands, and the first of a wire, taken off it
pub use Rattle.cn_yard.proofs.There.{IsFirst, first-is, first-there, nobody-on, none-first, once-gone, once-moved, others-on, rest-on, there, there-alike}
