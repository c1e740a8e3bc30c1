use Rattle.crosscheck.proofs.listing.Search.+lists.Given as goal

abbrev pub decreases-lists : goal.decreases-lists
decreases-lists l = l.steps
