-- The flow network that a value of the type stands for.
-- Assumes nothing.
use Rattle.mincut.specs.declared.flow.FlowNetwork.{FlowNetwork}
use Rattle.mincut.specs.Flow.{Flow}

abbrev pub flow_of : FlowNetwork → Flow
flow_of f = record { nodes = f.nodes; sources = f.sources.now; sinks = f.sinks.now; pipes = f.pipes.now }
