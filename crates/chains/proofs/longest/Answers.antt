-- `chains::longest` meets its contract: the most links in the cells are those of the table. Assumes nothing.
use Rattle.chains.proofs.Building.{links_say}
use Rattle.chains.proofs.longest.Goals as goal

pub returns : goal.returns
returns c =
    links_say c.requires.events_in_bounds.1 c.build.ensures c.most_links.ensures.0
