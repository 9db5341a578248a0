-- Each refusal's number, the layer that refuses, and the two places that it names (0 where one is not used).
use Rattle.std.specs.Prelude.{ℕ, List, ◌++◌, codes, decimal}
use Rattle.cards.specs.declared.fault.Layer.{Layer}
use Rattle.cards.specs.declared.fault.Layer.TheVariants.{Card, Table, Volume}
use Rattle.cards.specs.declared.fault.Extent.{Extent}
use Rattle.cards.specs.declared.fault.Extent.TheVariants.{Logical, Physical}
use Rattle.cards.specs.declared.fault.Fault.{Fault}
use Rattle.cards.specs.declared.fault.Fault.TheVariants.{BufferLength, CardBlock, LogicalBlock, TableBlock, VolumeSize, CardTooSmall, Version, RuleNumber, BadWord, LowCount, Full}

abbrev pub layer_number : Layer → ℕ
layer_number Card = 1
layer_number Table = 2
layer_number Volume = 3

-- the word of the header that holds a size
abbrev pub extent_word : Extent → ℕ
extent_word Logical = 1
extent_word Physical = 2

abbrev pub number_of : Fault → ℕ
number_of (BufferLength layer n) = 1
number_of (CardBlock block) = 2
number_of (LogicalBlock block) = 3
number_of (TableBlock block) = 4
number_of (VolumeSize layer extent) = 5
number_of (CardTooSmall needed) = 6
number_of Version = 7
number_of RuleNumber = 8
number_of (BadWord block word) = 9
number_of (LowCount block) = 10
number_of Full = 11

abbrev pub layer_of : Fault → Layer
layer_of (BufferLength layer n) = layer
layer_of (CardBlock block) = Card
layer_of (LogicalBlock block) = Volume
layer_of (TableBlock block) = Volume
layer_of (VolumeSize layer extent) = layer
layer_of (CardTooSmall needed) = Volume
layer_of Version = Table
layer_of RuleNumber = Table
layer_of (BadWord block word) = Table
layer_of (LowCount block) = Volume
layer_of Full = Volume

abbrev pub places_of : Fault → ℕ × ℕ
places_of (BufferLength layer n) = (n, 0)
places_of (CardBlock block) = (block, 0)
places_of (LogicalBlock block) = (block, 0)
places_of (TableBlock block) = (block, 0)
places_of (VolumeSize layer extent) = (0, extent_word extent)
places_of (CardTooSmall needed) = (needed, 0)
places_of Version = (0, 0)
places_of RuleNumber = (0, 3)
places_of (BadWord block word) = (block, word)
places_of (LowCount block) = (block, 0)
places_of Full = (0, 0)

-- what is printed of a refusal: `refused`, its number, its layer's number and its places
abbrev pub line_of : Fault → List ℕ
line_of f =
    codes "refused "
    ++ (decimal (number_of f)
    ++ (codes " "
    ++ (decimal (layer_number (layer_of f))
    ++ (codes " "
    ++ (decimal (places_of f).0
    ++ (codes " "
    ++ decimal (places_of f).1))))))
