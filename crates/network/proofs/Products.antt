-- Products of weights, as signed 64-bit numbers.
-- Assumes nothing.
use Rattle.std.proofs.Common.{ℕ, ◌*◌, ◌^◌, ◌<◌, ◌≤◌, mul-le-mul, arith}
use Rattle.network.specs.Limits.{max_nodes, max_weight}

-- the product of two numbers of at most all weights together
pub product_fits : (m n : ℕ) → m ≤ max_nodes * max_weight → n ≤ max_nodes * max_weight → m * n < 2 ^ 62
product_fits m n h k = omega (arith, mul-le-mul h k)
