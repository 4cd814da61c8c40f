use Rattle.std.proofs.Common.{◌≡◌, take}
use Rattle.neighbourhoods.specs.Sheets.{drawn}
use Rattle.neighbourhoods.proofs.sheets.draw.Given as goal

abbrev pub invariant-loop-pixel : goal.invariant-loop-pixel
invariant-loop-pixel l = l.sheet ≡ drawn l.initial.sheet (take l.pixel-index l.pixels)
