use Rattle.std.proofs.Common.{arith}
use Rattle.mincut.specs.View.{flow_of}
use Rattle.residual.proofs.Cutting.{reached_is_smallest}
use Rattle.residual.proofs.marking.marks.mark_cut.Goals as goal

pub returns : goal.returns
returns c sent done =
    reached_is_smallest (flow_of c.args.network) c.args.arcs.now sent _ c.args.marks.now c.write_marks.new.marks c.requires.accepted (omega arith) done
    c.reach.ensures c.write_marks.ensures
