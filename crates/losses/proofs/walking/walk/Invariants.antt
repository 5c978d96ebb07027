-- The invariant: the running sums and the losses kept are those of the risks passed so far, with 0 in the entries behind them.
use Rattle.std.proofs.Common.{◌≡◌, length, take, drop}
use Rattle.plan.specs.Header.{header_bits}
use Rattle.plan.specs.Sizes.{most_risks}
use Rattle.plan.specs.Losses.{losses_from}
use Rattle.group.specs.Entries.{behind}
use Rattle.group.specs.Values.{losses_of}
use Rattle.losses.specs.RunningSums.{SumsAre}
use Rattle.losses.proofs.walking.walk.Given as goal

abbrev pub invariant-loop-i : goal.invariant-loop-i
invariant-loop-i l = record {
  sums : SumsAre l.file.bytes.now l.limit l.i l.sums;
  kept : losses_of (take l.i l.of_risks) ≡ losses_from l.file.bytes.now l.limit header_bits l.i;
  entries : length l.of_risks ≡ most_risks;
  rest : drop l.i l.of_risks ≡ behind l.i;
}
