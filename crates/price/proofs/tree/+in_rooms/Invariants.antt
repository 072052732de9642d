-- The cycle of calls {in_rooms} ends: how many larger rooms are left falls. Assumes nothing.
use Rattle.price.proofs.tree.+in_rooms.Given as goal

abbrev pub decreases-in_rooms : goal.decreases-in_rooms
decreases-in_rooms l = l.larger
