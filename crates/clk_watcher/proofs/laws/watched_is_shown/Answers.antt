use Rattle.clk_watcher.proofs.LawShows.{watch_shows}
use Rattle.clk_watcher.proofs.laws.watched_is_shown.Goals as goal

pub returns : goal.returns
returns c = watch_shows
