-- Lists of a few numbers, and what a line that was read is worth.
use Rattle.std.proofs.Common.{◌≡◌, ℕ, ◌+◌, ◌≤◌, List, [], ◌∷◌, ◌++◌, length, get_or, drop, Some, refl, ap, ◌∙◌, subst, arith}
use Rattle.std.specs.List.{AllByRecursion}
use Rattle.std.proofs.ByRecursion.{All-get_or, All-drop}
use Rattle.std.proofs.lemmas.List.{length-drop}
use Rattle.kind.specs.Laws.{CostKind}
use Rattle.plan.specs.declared.counts.Counts.{Counts}
use Rattle.plan.specs.declared.refusal.Refusal.{Refusal}
use Rattle.plan.specs.Checks.{FirstFails}
use Rattle.plan.specs.Rules.{link_checks}
use Rattle.plan.specs.Plan.{Lists}
use Rattle.plan_text.specs.Kinds.{TextKind}
use Rattle.plan_text.specs.declared.read.Progress.{Progress}
use Rattle.plan_text.specs.declared.refused.Refused.{Refused}
use Rattle.plan_text.specs.declared.refused.Refuser.{Refuser}
use Rattle.plan_text.specs.declared.refused.Refuser.TheVariants.{Draft as by_draft}
use Rattle.plan_text.specs.Rows.{row, TenDigits}
use Rattle.plan_text.specs.Reading.{Says}
use Rattle.plan_text.specs.Stages.{LinkStopped}

-- a list of two numbers, and one of two and more
pub two : (xs : List ℕ) → length xs ≡ 2 → xs ≡ get_or xs 0 0 ∷ (get_or xs 1 0 ∷ [])
two [] e = absurd (omega arith)
two (x ∷ []) e = absurd (omega arith)
two (x ∷ (y ∷ [])) e = refl
two (x ∷ (y ∷ (z ∷ xs))) e = absurd (omega arith)

pub two_more : (xs : List ℕ) → 2 ≤ length xs → xs ≡ get_or xs 0 0 ∷ (get_or xs 1 0 ∷ drop 2 xs)
two_more [] h = absurd (omega arith)
two_more (x ∷ []) h = absurd (omega arith)
two_more (x ∷ (y ∷ xs)) h = refl

-- the draft that a refusal gives back is the one that was handed in
pub says_draft : {e : Refused} {f : Refusal} {line : ℕ} {who : Refuser} {back draft : Counts} → back ≡ draft
    → Says e f line who (Some back) → Says e f line who (Some draft)
says_draft {e} {f} {line} {who} same says = subst (λ (d : Counts). Says e f line who (Some d)) same says

-- The line of a link, from the numbers ns that were read of it and the cost c that they say.
module _ {C : Type 0} (K : CostKind C) (T : TextKind C) (s : Progress) (line : ℕ) (l : Lists C) (ns : List ℕ) (c : C) (behind : List ℕ)
    (size : length ns ≡ 2 + T.width) (cost : c ≡ T.read (drop 2 ns)) (short : AllByRecursion TenDigits ns) (row_there : s.rest.now ≡ row ns ++ behind) where
  row_of_two : s.rest.now ≡ row (get_or ns 0 0 ∷ (get_or ns 1 0 ∷ drop 2 ns)) ++ behind
  row_of_two = row_there ∙ ap (λ (xs : List ℕ). row xs ++ behind) (two_more ns (omega arith))

  pub link_stopped : (e : Refused) (f : Refusal)
      → FirstFails (link_checks K s.draft l (get_or ns 0 0) (get_or ns 1 0) c) f
      → Says e f line by_draft (Some s.draft) → LinkStopped K T s line l e
  link_stopped e f refused says =
      LinkStopped.not_added (get_or ns 0 0) (get_or ns 1 0) (drop 2 ns) behind f
      (All-get_or TenDigits ns 0 0 (omega arith) short) (All-get_or TenDigits ns 1 0 (omega arith) short) (All-drop TenDigits 2 ns short) (omega (arith, length-drop 2 ns))
      row_of_two
      (subst (λ (x : C). FirstFails (link_checks K s.draft l (get_or ns 0 0) (get_or ns 1 0) x) f) cost refused) says
