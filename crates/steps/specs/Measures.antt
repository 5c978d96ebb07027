-- The code's measures as those of document 01.
use Rattle.plan.specs.Marks as marks
use Rattle.steps.specs.declared.marks.LossRatio.{LossRatio}
use Rattle.steps.specs.declared.marks.EntryRatio.{EntryRatio}
use Rattle.steps.specs.declared.marks.Mark.{Mark}
use Rattle.steps.specs.declared.marks.Mark.TheVariants.{OfPremium, OfLosses}

abbrev pub loss_ratio : LossRatio → marks.LossRatio
loss_ratio m = record { thousandths = m.0 }

abbrev pub entry_ratio : EntryRatio → marks.EntryRatio
entry_ratio m = record { thousandths = m.0 }

abbrev pub mark_is : Mark → marks.Mark
mark_is (OfPremium m) = marks.of_premium (loss_ratio m)
mark_is (OfLosses m) = marks.of_losses (entry_ratio m)
