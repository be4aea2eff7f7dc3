use Rattle.std.proofs.Common.{arith}
use Rattle.netfile.proofs.Pasting.{record_written}
use Rattle.netfile.proofs.writing.put_records.Goals as goal

pub loop-index-preserved : goal.loop-index-preserved
loop-index-preserved g c =
    record_written g.row.SIZE g.R.Record.read g.R.Record.written g.met.R.Record.laws c.args.out.now c.args.start c.args.values.now _ _ c.loop-index-test.true c.index-values-index.is (omega arith) _ _ _ _
    c.record_place.ensures c.to_bytes.ensures c.loop-index.invariant c.put.ensures
