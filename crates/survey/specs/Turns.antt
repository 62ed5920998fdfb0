-- What the program's turns keep of the output.
use Rattle.std.specs.Prelude.{◌≡◌, ◌≤◌, length}
use Rattle.texts.specs.declared.Output.{Output}

-- the text lies within the output's bytes, which are as many as the program lends
abbrev pub Filled : Output → Type 0
Filled out = (out.len ≤ length out.bytes.now) × (length out.bytes.now ≡ 65536)

-- everything printed is written out
abbrev pub Empty : Output → Type 0
Empty out = (out.len ≡ 0) × (length out.bytes.now ≡ 65536)
