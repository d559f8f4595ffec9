use Rattle.queue_store.proofs.stamps.Stamps.search_far.Given as goal

abbrev pub ghosts-search_on : goal.ghosts-search_on
ghosts-search_on a = record { name = a.blank.name; parts = a.blank.parts }
