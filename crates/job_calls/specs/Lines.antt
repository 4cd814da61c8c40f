-- The lines that a job prints. Assumes nothing.
use Rattle.std.specs.Prelude.{◌≡◌, ℕ, not, List, [], ◌∷◌, ◌++◌, ℤ, IfOk, Ok, Err, codes, decimal, Result, count_by, ◌==◌}
use Rattle.std.specs.List.{zip}
use Rattle.std.proofs.Math.Utf8.{encode}
use Rattle.std.specs.Fmt.{signed_decimal}
use Rattle.std.specs.declared.alloc.AllocError.{AllocError}
use Rattle.lines.specs.Lines.{newline}
use Rattle.records.specs.Encoding.{operation_letter}
use Rattle.morphology.specs.declared.calls.Levels.{Levels}
use Rattle.morphology.specs.Calls.{Call}
use Rattle.bench.specs.Faults.{bench_code}
use Rattle.bench.specs.Calls.{Answer}

-- a piece is added to a text, unless memory is wanting
abbrev pub Appends : List ℕ → List ℕ → List ℕ → Result (Unit {0}) AllocError → Type 0
Appends before piece after r = IfOk r (λ u. after ≡ before ++ piece)

-- 0 for a call that was accepted, and else the number of its fault
abbrev pub number_of_answer : Answer → ℕ
number_of_answer (Ok z) = 0
number_of_answer (Err f) = (bench_code f).number

-- the level after a call from level z: the answer, or z where it was refused
abbrev pub level_after : ℤ → Answer → ℤ
level_after z (Ok present) = present
level_after z (Err f) = z

-- a level with a space before it
abbrev pub level_text : ℤ → List ℕ
level_text z = codes " " ++ signed_decimal z

-- the line of a call: letter, size, answer, present level
abbrev pub call_line : Call → ℕ → ℤ → List ℕ
call_line c number level =
    encode (operation_letter c.operation) ++ (codes " " ++ (decimal c.size ++ (codes " " ++ (decimal number ++ (level_text level ++ newline)))))

-- the lines of calls from level z, one after another
abbrev pub call_lines : ℤ → List Call → List Answer → List ℕ
call_lines z [] answers = []
call_lines z (c ∷ calls) [] = []
call_lines z (c ∷ calls) (r ∷ answers) = call_line c (number_of_answer r) (level_after z r) ++ call_lines (level_after z r) calls answers

-- the present, the lowest and the highest level
abbrev pub levels_text : Levels → List ℕ
levels_text l = level_text l.present ++ (level_text l.lowest ++ level_text l.highest)

-- the line of the note: the three levels, and how many calls were accepted
abbrev pub note_line : Levels → ℕ → List ℕ
note_line l count = codes "note" ++ (levels_text l ++ (codes " " ++ (decimal count ++ newline)))

-- how many pixels of two pictures differ
abbrev pub differing : List ℕ → List ℕ → ℕ
differing xs ys = count_by (λ p. not (p.0 == p.1)) (zip xs ys)

-- the lines of a residue and of a count of pixels
abbrev pub inclusions_text : ℕ → ℕ → List ℕ
inclusions_text residue count = codes "residue " ++ (decimal residue ++ (codes "\npixels " ++ (decimal count ++ newline)))
