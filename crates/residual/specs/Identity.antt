-- The residual identity, which every solver keeps: for every set of vertices, what its arcs have lost is what went out of
-- it and did not come back.
-- Assumes nothing.
use Rattle.std.specs.Prelude.{◌≡◌, ℕ, ◌+◌, ◌-◌, ◌<◌, ◌≤◌, List, ◌==◌}
use Rattle.network.specs.Net.{below, when}
use Rattle.residual.specs.declared.arcs.Arc.{Arc}
use Rattle.residual.specs.Arcs.{Moved, Vertices, residual}

-- what each vertex holds: what came to it and did not go on
abbrev pub Surplus : Type 0
Surplus = ℕ → ℕ

abbrev pub nothing : Surplus
nothing v = 0

-- the surplus after d came to v, and after d left u
abbrev pub gained : Surplus → ℕ → ℕ → Surplus
gained held v d w = held w + when (w == v) d

abbrev pub lost : Surplus → ℕ → ℕ → Surplus
lost held u d w = held w - when (w == u) d

-- of n vertices: what is left on the arcs that leave X, plus what was sent if X has the source, is what was there at the
-- start plus the surplus held inside X; and this for every X
abbrev pub Identity : ℕ → ℕ → List Arc → List Arc → ℕ → Surplus → Type 0
Identity n source start arcs sent held =
    (X : Vertices) → residual X arcs + when (X source) sent ≡ residual X start + below n (λ v. when (X v) (held v))

-- it holds at the start; d more that goes from the source to v keeps it, with so much more sent and so much more held at v;
-- and d that goes from a vertex u, which holds as much, to v keeps it too
pub record Kept (n source : ℕ) (start arcs : List Arc) (sent : ℕ) (held : Surplus) : Type 0 where
  pub begins : Identity n source start start 0 nothing
  pub sends : (new : List Arc) (v d : ℕ) → v < n → Identity n source start arcs sent held → Moved arcs new source v d
      → Identity n source start new (sent + d) (gained held v d)
  pub passes : (new : List Arc) (u v d : ℕ) → u < n → v < n → d ≤ held u → Identity n source start arcs sent held → Moved arcs new u v d
      → Identity n source start new sent (gained (lost held u d) v d)

abbrev pub IdentityKept : Type 0
IdentityKept = (n source : ℕ) (start arcs : List Arc) (sent : ℕ) (held : Surplus) → Kept n source start arcs sent held
