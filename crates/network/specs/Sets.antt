-- What a set of nodes, as the code holds it, stands for.
-- Assumes nothing.
use Rattle.network.specs.declared.node_set.NodeSet.{NodeSet}
use Rattle.network.specs.Net.{Net, Nodes, set_of}
use Rattle.network.specs.View.{view}

-- the network of the set
abbrev pub network_of : NodeSet → Net
network_of s = view s.network.now

-- the nodes in the set
abbrev pub nodes_of : NodeSet → Nodes
nodes_of s = set_of s.marks.now
