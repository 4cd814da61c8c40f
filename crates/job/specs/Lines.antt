-- The lines that a job prints. Assumes nothing.
use Rattle.std.specs.Prelude.{ℕ, cond, List, [], ◌++◌, codes, decimal, ◌==◌}
use Rattle.lines.specs.Lines.{newline}

-- the note of a bench that accepted no call
abbrev pub empty_note : List ℕ
empty_note = codes "note 0 0 0 0" ++ newline

-- says how many calls were not made
abbrev pub count_text : ℕ → List ℕ
count_text n = codes "calls not made: " ++ (decimal n ++ newline)

-- says so where there were any
abbrev pub not_made : ℕ → List ℕ
not_made n = cond (n == 0) [] (count_text n)
