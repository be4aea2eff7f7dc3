-- Amounts that count where a condition holds.
-- Assumes nothing.
use Rattle.std.proofs.Common.{◌≡◌, ℕ, ◌+◌, ◌≤◌, Bool, true, false, refl, arith}
use Rattle.network.specs.Net.{when}

pub when_none : (b : Bool) → when b 0 ≡ 0
when_none true = refl
when_none false = refl

pub when_plus : (b : Bool) (x y : ℕ) → when b (x + y) ≡ when b x + when b y
when_plus true x y = refl
when_plus false x y = refl

pub when_le : (b : Bool) (x : ℕ) → when b x ≤ x
when_le true x = omega arith
when_le false x = omega arith
