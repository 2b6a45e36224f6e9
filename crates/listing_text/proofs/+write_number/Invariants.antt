-- Each call of itself has a smaller number. Assumes nothing.
use Rattle.listing_text.proofs.+write_number.Given as goal

abbrev pub decreases-write_number : goal.decreases-write_number
decreases-write_number l = l.value
