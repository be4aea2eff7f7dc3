-- Marks of which none is bad.
-- Assumes nothing.
use Rattle.std.proofs.Common.{◌≡◌, Bool, true, false, not, List, ℕ, length, None, refl, arith}
use Rattle.std.specs.List.{position, prefix_len}
use Rattle.std.proofs.lemmas.Grind.{common_steps}
use Rattle.std.proofs.lemmas.List.Sums.{prefix_len-le-length}
use Rattle.network.specs.Marks.{is_mark}

twice : (b : Bool) → not (not b) ≡ b
twice true = refl
twice false = refl

-- where no mark is bad, all are good
pub all_good : (marks : List ℕ) → position (λ m. not (is_mark m)) marks ≡ None → prefix_len is_mark marks ≡ length marks
all_good marks e =
    let same : prefix_len (λ m. not (not (is_mark m))) marks ≡ prefix_len is_mark marks = λ i. prefix_len (λ m. twice (is_mark m) i) marks in
    grind (arith, common_steps, prefix_len-le-length is_mark marks)
