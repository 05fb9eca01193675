-- `lower_rows::seek_word` meets its contract. Assumes nothing.
use Rattle.lower_rows.proofs.+seek_word.Given as goal

abbrev pub decreases-seek_word : goal.decreases-seek_word
decreases-seek_word l = l.order
