use Rattle.cn_tree.proofs.counting_tree.+grow.Given as goal

abbrev pub decreases-grow : goal.decreases-grow
decreases-grow l = l.level
