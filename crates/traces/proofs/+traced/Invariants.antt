-- The measure is the rank.
use Rattle.traces.proofs.+traced.Given as goal

abbrev pub decreases-traced : goal.decreases-traced
decreases-traced l = l.m
