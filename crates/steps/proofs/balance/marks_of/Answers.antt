-- The dollars of each mark are those of the group, since n and SA are the group's.
use Rattle.std.proofs.Common.{◌≡◌, ◌∙◌, ℕ, length}
use Rattle.plan.specs.Losses.{SA}
use Rattle.plan.specs.Marks.{mark_of, dollars, LG, LH}
use Rattle.steps.specs.Measures.{mark_is}
use Rattle.steps.specs.declared.marks.Mark.{Mark}
use Rattle.group.proofs.Laws.{risks}
use Rattle.group.specs.Values.{losses_is, GroupIs, each_of}
use Rattle.group.specs.declared.Header.{Header}
use Rattle.group.specs.declared.GroupLosses.{GroupLosses}
use Rattle.steps.proofs.balance.marks_of.Goals as goal

-- of a group, a mark that its kind makes of x thousandths
dollars-are : {h : Header} {g : GroupLosses} → GroupIs h g → (m : Mark) (x : ℕ)
    → mark_is m ≡ mark_of h.mark_kind x
    → {n : ℕ} → n ≡ length (each_of g)
    → dollars (mark_is m) h.standard_premium n g.limited
    ≡ dollars (mark_of h.mark_kind x) h.standard_premium (length (losses_is g)) (SA (losses_is g))
dollars-are {h} b m x is {n} e = λ i. dollars (is i) h.standard_premium ((e ∙ risks b.losses) i) (b.losses.limited i)

pub returns : goal.returns
unfolding LG LH
returns c = record {
  maximum =
      c.dollars-maximum.ensures
      ∙ dollars-are c.requires c.of_kind-highest.result _ c.of_kind-highest.ensures c.risks-risks.ensures;
  minimum =
      c.dollars-minimum.ensures
      ∙ dollars-are c.requires c.of_kind-lowest.result _ c.of_kind-lowest.ensures c.risks-risks.ensures;
}
