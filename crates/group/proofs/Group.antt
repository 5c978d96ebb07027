-- The code's losses are a list of L and A, the file's own where `LossesAre` says so: what the steps ask of them. Assumes nothing.
use Rattle.std.proofs.Common.{◌≡◌, sym, ap, ◌∙◌, subst, List, length}
use Rattle.std.proofs.lemmas.List.{length-map}
use Rattle.plan.specs.Header as header
use Rattle.plan.specs.Losses as losses
use Rattle.plan.specs.Bounds.{GroupBounds}
use Rattle.group.specs.Values.{header_is, LossesAre, GroupIs, each_of}
use Rattle.group.specs.declared.Header.{Header}
use Rattle.group.specs.declared.GroupLosses.{GroupLosses}

module _ {rs : List losses.Losses} {g : GroupLosses} (x : LossesAre rs g) where
  -- n
  pub risks : length (each_of g) ≡ length rs
  risks = sym (length-map (each_of g) _) ∙ ap length x.each

  -- the losses of a group within its bounds are as the steps take them
  pub group_is : {h : Header} {p : header.Header} → header_is h ≡ p → GroupBounds p rs → GroupIs h g
  group_is {h} e b = record {
    losses = subst (λ (l : List losses.Losses). LossesAre l g) (sym x.each) x;
    bounds =
        subst (λ (l : List losses.Losses). GroupBounds (header_is h) l) (sym x.each)
        (subst (λ (p : header.Header). GroupBounds p rs) (sym e) b);
  }
