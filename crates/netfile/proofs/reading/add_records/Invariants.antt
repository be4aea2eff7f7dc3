use Rattle.std.proofs.Common.{◌≡◌, ℕ, List, map, fold, drop}
use Rattle.network.specs.Edits.{Edit, edited}
use Rattle.network.specs.View.{view}
use Rattle.netfile.specs.Answers.{AllAccepted}
use Rattle.netfile.proofs.reading.add_records.Given as goal

-- the edits that are left are accepted, and make what all of them make of the first network
abbrev pub invariant-loop-record : goal.invariant-loop-record
invariant-loop-record g l =
    let edits : List (List ℕ) → List Edit = λ records. map g.R.Record.edit (map g.R.Record.read records) in
    let left = edits (drop l.record-index l.records) in
    record {
      accepted : AllAccepted (view l.network) left;
      comes_to : fold edited (view l.network) left ≡ fold edited (view l.initial.network) (edits l.records);
    }
