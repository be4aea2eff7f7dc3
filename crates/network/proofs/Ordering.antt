-- The order of finite relative scores.
-- Assumes nothing.
use Rattle.std.proofs.Common.{ℕ, ◌*◌, ◌<◌, ◌≤◌, pos, negsuc, ◌≤ℤ◌, ◌<ℤ◌, inl, inr, ⊎_elim, mul-le-mul_left, arith}
use native.Mathlib.Nat.{le_of_mul-le-mul_left}
use Rattle.std.proofs.lemmas.Int.{ints}
use Rattle.std.proofs.lemmas.Bool.{cases_lt}
use Rattle.network.specs.Laws.{ScoresOrdered}

positive : (n : ℕ) → pos 0 <ℤ pos n → 0 < n
positive n h = omega (arith, ints)

not_negative : (n : ℕ) → pos 0 <ℤ negsuc n → ⊥
not_negative n h = omega (arith, ints)

lifted : (m n : ℕ) → m ≤ n → pos m ≤ℤ pos n
lifted m n h = omega (arith, ints)

lowered : (m n : ℕ) → pos m ≤ℤ pos n → m ≤ n
lowered m n h = omega (arith, ints)

-- the scores are b / d, c / e and x / f
through : (b c x d e f : ℕ) → 0 < e → b * e ≤ c * d → c * f ≤ x * e → b * f ≤ x * d
through b c x d e f h p q = le_of_mul-le-mul_left (omega (arith, mul-le-mul_left f p, mul-le-mul_left d q)) h

pub scores_ordered : ScoresOrdered
scores_ordered (b, pos d) (c, pos e) (x, pos f) p q r = record {
  itself = omega (arith, ints);
  either = ⊎_elim (λ l. inl (lifted _ _ (omega arith))) (λ l. inr (lifted _ _ l)) (cases_lt (b * e) (c * d));
  through = λ h k. lifted _ _ (through b c x d e f (positive e q) (lowered _ _ h) (lowered _ _ k));
}
scores_ordered (b, pos d) (c, pos e) (x, negsuc f) p q r = absurd (not_negative f r)
scores_ordered (b, pos d) (c, negsuc e) z p q r = absurd (not_negative e q)
scores_ordered (b, negsuc d) y z p q r = absurd (not_negative d p)
