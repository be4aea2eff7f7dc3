-- The network that a value of the type stands for.
-- Assumes nothing.
use Rattle.std.specs.Prelude.{vec_items}
use Rattle.network.specs.declared.network.Network.{Network}
use Rattle.network.specs.Net.{Net}

abbrev pub view : Network → Net
view n = record { weights = vec_items n.weights; pipes = vec_items n.pipes }
