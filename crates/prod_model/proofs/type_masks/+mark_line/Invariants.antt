use Rattle.prod_model.proofs.type_masks.+mark_line.Given as goal

abbrev pub decreases-mark_line : goal.decreases-mark_line
decreases-mark_line l = l.most
