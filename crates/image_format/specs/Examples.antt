-- Images made by hand: one of a weighted set of texts, one with a second attribute, and one broken image for each
-- condition.
use Rattle.std.specs.Prelude.{◌≡◌, ℕ, ◌+◌, ◌*◌, ◌^◌, pos, negsuc, List, [], ◌∷◌}
use Rattle.entry_ref.specs.Images.{words_at}
use Rattle.entry_ref.specs.declared.images.Image.{Image}
use Rattle.tree_read.specs.Nodes.{node_words}
use Rattle.image_format.specs.Images.{table_of, IsLawfulImage}
use Rattle.attr_types.specs.declared.value.Value.TheVariants as values

-- document 7 has the text `te` with weight -3, after one operation
abbrev pub one_text : Image
one_text = record {
  root = 1027;
  records = (1027, 1 ∷ 1026 ∷ 2050 ∷ 0 ∷ [])
      ∷ (1026, node_words 0 1 (7 ∷ []) (3072 ∷ []))
      ∷ (3072, 1 ∷ 4402341478397 ∷ [])
      ∷ (1024, 2 ∷ 8387109881047416832 ∷ [])
      ∷ (2050, node_words 0 1 (1024 ∷ []) (4096 ∷ []))
      ∷ (2048, 1 ∷ 34359738365 ∷ []) ∷ [];
}

-- the same after the words of one record are replaced
abbrev pub broken : ℕ → List ℕ → Image
broken ref ws = record { root = 1027; records = (ref, ws) ∷ one_text.records }

abbrev pub IsLawfulText : Image → Type 0
IsLawfulText image = IsLawfulImage 6 (words_at image) image.root

abbrev pub OneTextIsLawful : Type 0
OneTextIsLawful = IsLawfulText one_text

abbrev pub OneTextReads : Type 0
OneTextReads = table_of 6 (words_at one_text) one_text.root
    ≡ (7, (record { value = values.Text (116 ∷ 101 ∷ []); weight = negsuc 2 } ∷ []) ∷ []) ∷ []

-- the value's record is missing
abbrev pub MissingRecord : Type 0
MissingRecord = ¬ IsLawfulText (broken 1024 [])

-- the leaf of the document tree counts two pairs
abbrev pub WrongCount : Type 0
WrongCount = ¬ IsLawfulText (broken 1026 (node_words 0 2 (7 ∷ []) (3072 ∷ [])))

-- there is a document 0
abbrev pub UnlawfulTable : Type 0
UnlawfulTable = ¬ IsLawfulText (broken 1026 (node_words 0 1 (0 ∷ []) (3072 ∷ [])))

-- the dictionary is empty
abbrev pub MissingValue : Type 0
MissingValue = ¬ IsLawfulText (broken 1027 (1 ∷ 1026 ∷ 0 ∷ 0 ∷ []))

-- the posting list has weight -2
abbrev pub WrongWeight : Type 0
WrongWeight = ¬ IsLawfulText (broken 2048 (1 ∷ 34359738366 ∷ []))

-- a second attribute of single longs, in which one document has the number 5
abbrev pub two_fields : ℕ → Image
two_fields doc = record {
  root = 1028;
  records = (1028, 1 ∷ 1026 ∷ 2050 ∷ 3074 ∷ 4098 ∷ 0 ∷ 0 ∷ 0 ∷ [])
      ∷ (3074, node_words 0 1 (doc ∷ []) (4096 ∷ []))
      ∷ (4096, 8 ∷ 5 ∷ [])
      ∷ (4098, node_words 0 1 (4096 ∷ []) (10240 ∷ []))
      ∷ (5120, 1 ∷ (doc * 2 ^ 32 + 1) ∷ [])
      ∷ one_text.records;
}

-- shape 14: digit 6 of the weighted set of texts, and digit 1 of the longs times 8
abbrev pub TwoFieldsAreLawful : Type 0
TwoFieldsAreLawful = IsLawfulImage 14 (words_at (two_fields 7)) 1028

abbrev pub TwoFieldsRead : Type 0
TwoFieldsRead = table_of 14 (words_at (two_fields 7)) 1028
    ≡ (
      7,
      (record { value = values.Text (116 ∷ 101 ∷ []); weight = negsuc 2 } ∷ [])
          ∷ (record { value = values.Long (pos 5); weight = pos 1 } ∷ []) ∷ [],
    ) ∷ []

-- it has another document than the first attribute
abbrev pub OtherDocument : Type 0
OtherDocument = ¬ IsLawfulImage 14 (words_at (two_fields 8)) 1028
