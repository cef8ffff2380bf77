-- The links at a relay, one after another.
-- For the inner functions: no public contract cites these.
use Rattle.std.specs.Prelude.{ℕ, List, [], ◌∷◌, ◌++◌, drop, ◌==◌, if◌then◌else◌}
use Rattle.plan.specs.declared.ends.Ends.{Ends}
use Rattle.measure.specs.declared.graph.Graph.{Graph}
use Rattle.measure.specs.declared.graph.Reached.{Reached}

abbrev pub reached : {C : Type 0} → ℕ → C → Reached C
reached x c = record { relay = x; cost = c }

-- where a link leads from relay u, and what it costs; nothing where it does not end there
abbrev pub led : {C : Type 0} → ℕ → Ends → C → List (Reached C)
led u e c =
    if e.from == u then reached e.to c ∷ []
    else (if e.to == u then reached e.from c ∷ [] else [])

-- the same of all links of two lists side by side
abbrev pub all_led : {C : Type 0} → ℕ → List Ends → List C → List (Reached C)
all_led u [] cs = []
all_led u (e ∷ es) [] = []
all_led u (e ∷ es) (c ∷ cs) = led u e c ++ all_led u es cs

-- the links at relay u from place k on
abbrev pub links_from : {C : Type 0} → Graph C → ℕ → ℕ → List (Reached C)
links_from g u k = all_led u (drop k g.ends.now) (drop k g.costs.now)

-- the links at relay u
abbrev pub links_of : {C : Type 0} → Graph C → ℕ → List (Reached C)
links_of g u = all_led u g.ends.now g.costs.now
