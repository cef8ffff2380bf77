use Rattle.std.proofs.Common.{sym, ◌∙◌, eq-eqb}
use Rattle.std.proofs.lemmas.Bool.{eqb-true}
use Rattle.balls.proofs.Counting.{none_marked, marked_none}
use Rattle.balls.proofs.missing.Missing.is_empty.Goals as goal

pub returns : goal.returns
returns c =
    let self = c.args.self.now in (
      (λ e. none_marked self.marks (sym self.counted ∙ eqb-true _ _ e)),
      λ none. eq-eqb _ _ (self.counted ∙ marked_none self.marks none),
    )
