-- The worked examples of the scales, by computation. Assumes nothing.
use Rattle.std.proofs.Common.{◌≤◌, refl, arith}
use lib.Count.{ones, ones_in}
use Rattle.scales.specs.Phases.{mark}
use Rattle.scales.specs.Examples.{PhaseExamples, ReliefExamples}

pub phase_examples : PhaseExamples
unfolding ones ones_in
phase_examples = record {
  join = refl;
  meet = refl;
  apart = λ w. let low : mark 3 0 ≤ mark 6 0 = w.marks 0 in omega arith;
  apart_too = λ w. let high : mark 6 2 ≤ mark 3 2 = w.marks 2 in omega arith;
  gap = refl;
}

pub relief_examples : ReliefExamples
relief_examples = record { above = refl; below = refl }
