-- The word for who refused a text.
use Rattle.std.specs.Prelude.{ℕ, List, codes}
use Rattle.plan_text.specs.declared.refused.Refuser.{Refuser}
use Rattle.plan_text.specs.declared.refused.Refuser.TheVariants.{Text, Draft, Closing}

abbrev pub word_of : Refuser → List ℕ
word_of Text = codes "text"
word_of Draft = codes "draft"
word_of Closing = codes "closing"
