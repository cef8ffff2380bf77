use Rattle.std.proofs.Common.{◌≡◌, ℕ, ◌<◌, ◌≤◌, eqb, ◌⊎◌, List, Decides, subst, inl, inr, arith}
use Rattle.std.specs.List.{ContainsAt}
use Rattle.std.proofs.lemmas.List.Elements.{contains_decides}
use Rattle.std.proofs.lemmas.Bool.{cases_lt, both_ways}
use Rattle.plan.proofs.reach.lowest_absent.Goals as goal
use Rattle.std.proofs.lemmas.Bool.Decides.{Decides-eqb}

-- one colour more
upto : (xs : List ℕ) (n : ℕ) → ((b : ℕ) → 1 ≤ b → b < n → ContainsAt xs b) → ContainsAt xs n → (b : ℕ) → 1 ≤ b → b ≤ n → ContainsAt xs b
upto xs n below here b low high = by (cases_lt b n)
  where
    by : (b < n) ⊎ (n ≤ b) → ContainsAt xs b
    by (inl l) = below b low l
    by (inr l) = let same : n ≡ b = omega arith in subst (λ (x : ℕ). ContainsAt xs x) same here

pub loop-c-preserved : goal.loop-c-preserved
loop-c-preserved c =
    let d : Decides c.contains.result (ContainsAt c.args.colours.now c.loop-c.c-counter) = contains_decides eqb Decides-eqb _ _ _ c.contains.ensures.cases in
    λ b low high. upto c.args.colours.now c.loop-c.c-counter c.loop-c.invariant (d.0 c.if-not-contains.false) b low (omega arith)

pub returns-else-not-contains : goal.returns-else-not-contains
returns-else-not-contains c =
    let d : Decides c.contains.result (ContainsAt c.args.colours.now c.loop-c.c-counter) = contains_decides eqb Decides-eqb _ _ _ c.contains.ensures.cases in
    λ b h. upto c.args.colours.now c.loop-c.c-counter c.loop-c.invariant (d.0 c.if-not-contains.false) b h.0 (omega arith)
