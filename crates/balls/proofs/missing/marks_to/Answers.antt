use Rattle.std.proofs.Common.{rules, ◌≡◌, ◌+◌, ◌-◌, true, replicate, ◌∙◌, ap, arith}
use Rattle.std.proofs.lemmas.List.{drop-replicate, length-replicate}
use Rattle.balls.proofs.missing.marks_to.Goals as goal

pub returns : goal.returns
returns c =
    let filled : c.fill.new.self ≡ replicate c.args.palette true =
    c.fill.ensures.after (λ y same. same) ∙ ap (λ n. replicate n true) (search (rules, length-replicate)) in
    let marks : c.from.result + 1 - 1 ≡ c.args.palette = omega (arith, c.from.ensures) in
    search (rules, drop-replicate, filled, marks)
