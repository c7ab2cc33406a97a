use Rattle.count_laws.proofs.ImageLaws.{all_stored, all_unshared, closed_counts, commits_timely, true_count, updates_timely}
use Rattle.count_laws.proofs.StoredLaws.{one_sector, stored}
use Rattle.count_laws.proofs.counts.counts_that_stand_are_true.Goals as goal

pub returns : goal.returns
returns c = record {
  stored = λ opening log opened entries window behind from image place count room stand all pointed is there fits runs.
      stored opening log opened entries window stand image is room behind from all pointed place there count fits runs;
  one = one_sector;
  closed = closed_counts;
  counts = λ opening log opened entries from start image s room closed turns pointed stand is. (
    true_count opening log opened entries from closed turns pointed start image s stand is room,
    all_stored opening log opened entries from closed turns pointed start image s stand is room,
    all_unshared opening log opened entries from closed turns pointed start image s stand is room,
  );
  commits = λ opening log opened entries window from bound image room stand pointed is next before.
      commits_timely opening log opened entries window from stand pointed image is room bound next before;
  updates = λ opening log opened entries window from bound image room stand pointed is next before.
      updates_timely opening log opened entries window from stand pointed image is room bound next before;
}
