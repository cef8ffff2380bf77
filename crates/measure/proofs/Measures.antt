-- What the two squares say of the plan that was measured.
use Rattle.std.proofs.Common.{◌≡◌, ℕ, ◌*◌, ◌<◌, List, length, subst, arith}
use Rattle.kind.specs.Laws.{Laws, CostKind}
use Rattle.plan.specs.Plan.{Plan}
use Rattle.plan.specs.Sound.{Sound}
use Rattle.plan.specs.Rules.{Closable}
use Rattle.measure.specs.declared.graph.Graph.{Graph}
use Rattle.measure.specs.Distance.{Distance, Next}
use Rattle.measure.specs.Squares.{in_square}
use Rattle.measure.specs.Settling.{Entered, Rows, NextRows, Behind}
use Rattle.measure.specs.Measuring.{Measures}
use Rattle.measure.proofs.Cells.{same_drop}
use Rattle.measure.proofs.Stepping.{toward_next}

module _ {C : Type 0} {K : CostKind C} (laws : Laws K) (g : Graph C) (p : Plan C) (entered : Entered p g)
    (distances distances' : List C) (nexts nexts' : List ℕ)
    (rows : Rows K g distances' g.relays) (next_rows : NextRows K g distances' nexts' g.relays) where
  distance : Sound K p → Closable p → (u v : ℕ) → u < g.relays → v < g.relays → Distance K p u v (in_square K.none g.relays distances' u v)
  distance sound closable u v hu hv =
      rows p entered sound u v hu hv (closable.connected u v (omega (arith, entered.relays)) (omega (arith, entered.relays)))

  next : Sound K p → Closable p → (u v : ℕ) → u < g.relays → v < g.relays → Next K p u v (in_square 0 g.relays nexts' u v)
  next sound closable u v hu hv =
      toward_next laws g p entered sound distances' (distance sound closable) u v (in_square 0 g.relays nexts' u v) hu hv (next_rows u v hu hv)

  measures_graph : length distances' ≡ length distances → length nexts' ≡ length nexts → Behind g.relays distances distances' → Behind g.relays nexts nexts'
      → Measures K p g.relays distances distances' nexts nexts'
  measures_graph same_distances same_nexts behind_distances behind_nexts = record {
    distance = distance;
    next = next;
    other_distances = same_drop (g.relays * g.relays) distances' distances same_distances behind_distances;
    other_nexts = same_drop (g.relays * g.relays) nexts' nexts same_nexts behind_nexts;
  }

  pub measures : (n : ℕ) → g.relays ≡ n → length distances' ≡ length distances → length nexts' ≡ length nexts
      → Behind g.relays distances distances' → Behind g.relays nexts nexts' → Measures K p n distances distances' nexts nexts'
  measures n e same_distances same_nexts behind_distances behind_nexts =
      subst (λ (m : ℕ). Measures K p m distances distances' nexts nexts') e (measures_graph same_distances same_nexts behind_distances behind_nexts)
