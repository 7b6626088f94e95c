-- The words for the kinds of network.
use Rattle.std.specs.Prelude.{ℕ, List, codes}
use Rattle.cn_tables.specs.declared.kind.Kind.{Kind}
use Rattle.cn_tables.specs.declared.kind.Kind.TheVariants.{Bitonic, Periodic, Tree}

-- the word for a kind of network
abbrev pub kind_word : Kind → List ℕ
kind_word Bitonic = codes "bitonic"
kind_word Periodic = codes "periodic"
kind_word Tree = codes "tree"
