-- The text that shows a wiring.
use Rattle.std.specs.Prelude.{ℕ, ◌≡◌, List}
use Rattle.cn_tables.specs.Network.{Network}
use Rattle.cn_texts.specs.Writing.Wiring.{wiring_text}
use Rattle.cn_nets.specs.Net.{Description, IsNetworkOf}

-- this is the text of the wiring of a network of this kind and width
abbrev pub IsWiringOf : Description → List ℕ → Type 0
IsWiringOf net text = (network : Network) × IsNetworkOf net network × (text ≡ wiring_text network)
