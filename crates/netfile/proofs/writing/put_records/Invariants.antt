use Rattle.std.proofs.Common.{◌≡◌, take}
use Rattle.std.specs.List.{flat_map}
use Rattle.netfile.specs.Answers.{overwritten}
use Rattle.netfile.proofs.writing.put_records.Given as goal

abbrev pub invariant-loop-index : goal.invariant-loop-index
invariant-loop-index g l = l.out ≡ overwritten l.initial.out l.start (flat_map g.R.Record.written (take l.index l.values))
