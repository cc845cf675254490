-- What the calls of a work require, and what they change.
use Rattle.std.specs.Prelude.{◌-◌, replicate, length, ◌≡◌, ℕ, ◌+◌, ◌^◌, ◌<◌, ◌≤◌, ◌&&◌, true, false, nat_eq, if◌then◌else◌, List, [], ◌∷◌}
use Rattle.std.specs.Prelude.{◌++◌, None, Some}
use Rattle.entry_ref.specs.References.{buffer_of, buffer_limit, offset_limit}
use Rattle.entry_ref.specs.declared.images.Image.{Image}
use Rattle.entry_ref.specs.Images.{no_image, image_of, words_at}
use Rattle.entry_ref.specs.Places.{IsEntry}
use Rattle.entry_ref.specs.Records.{Records}
use Rattle.arena_api.specs.Works.{Sizes, Buffer, Commits, Stored, WorkView, active_width, is_free, last_tag, first_hold, oldest_of}

-- there is at least 1 buffer and at most as many as references can name, each of 8,192 to 65,536 words, whose offsets
-- references can name; numbers of commits fit in 32 bits, generations in 48
pub record IsWithinLimits (bits : ℕ) (sizes : Sizes) : Type 0 where
  pub some_buffers : 1 ≤ sizes.buffers
  pub few_buffers : sizes.buffers < buffer_limit bits
  pub some_words : 8192 ≤ sizes.words
  pub few_words : sizes.words ≤ 65536
  pub offsets : sizes.words ≤ offset_limit bits
  pub commits : sizes.commits < 2 ^ 32
  pub generations : sizes.generations < 2 ^ 48

-- commit 0, which is empty, at generation 0: what a new work of these sizes knows
abbrev pub opened : {H : Type 0} → H → Sizes → List Image → WorkView H
opened home sizes told = record {
  home = home;
  sizes = sizes;
  buffer = λ b. Buffer.free None;
  queue = first_hold ∷ [];
  commits = record { floor = 0; last = 0; image = λ n. no_image };
  stored = λ r i. None;
  told = told;
  stops = 0;
  found = 0;
  made = 0;
}

-- nothing is committed or handed out, and the generation is the first
pub record IsFresh {H : Type 0} (work : WorkView H) : Type 0 where
  pub queue : work.queue ≡ first_hold ∷ []
  pub floor : work.commits.floor ≡ 0
  pub last : work.commits.last ≡ 0
  pub image : work.commits.image 0 ≡ no_image
  pub buffers : (b : ℕ) → is_free (work.buffer b) ≡ true

-- this commit is kept
pub record IsKept (commits : Commits) (n : ℕ) : Type 0 where
  pub from : commits.floor ≤ n
  pub to : n ≤ commits.last

-- no kept commit has this record
abbrev pub InNoCommit : Commits → ℕ → Type 0
InNoCommit commits r = (n : ℕ) → IsKept commits n → words_at (commits.image n) r ≡ []

-- a record of n words fills an entry: its offset is at least 1, in a buffer of this width
pub record FitsEntry (bits : ℕ) (sizes : Sizes) (width r n : ℕ) : Type 0 where
  pub entry : IsEntry bits sizes.buffers sizes.words width r
  pub whole : n ≡ width

-- a word of an entry of an active buffer
pub record IsWordIn {H : Type 0} (bits : ℕ) (work : WorkView H) (r i : ℕ) : Type 0 where
  pub entry : IsEntry bits work.sizes.buffers work.sizes.words (active_width (work.buffer (buffer_of bits r))) r
  pub inside : i < active_width (work.buffer (buffer_of bits r))

-- a word may be stored: it belongs to an entry that no kept commit has as a record
pub record MayStore {H : Type 0} (bits : ℕ) (work : WorkView H) (r i : ℕ) : Type 0 where
  pub word : IsWordIn bits work r i
  pub unkept : InNoCommit work.commits r

-- one more word is stored
abbrev pub with_stored : Stored → ℕ → ℕ → ℕ → Stored
with_stored stored r i word q j = if nat_eq q r && nat_eq j i then Some word else stored q j

-- words followed by zeros, up to a width
abbrev pub padded : List ℕ → ℕ → List ℕ
padded words width = words ++ replicate (width - length words) 0

-- nothing is stored
abbrev pub nothing_stored : Stored
nothing_stored r i = None

-- the free buffer with the lowest number
pub record IsLowestFree (buffer : ℕ → Buffer) (count b : ℕ) : Type 0 where
  pub below : b < count
  pub free : is_free (buffer b) ≡ true
  pub lowest : (a : ℕ) → a < b → is_free (buffer a) ≡ false

-- the buffers after one of them is replaced
abbrev pub with_buffer : (ℕ → Buffer) → ℕ → Buffer → ℕ → Buffer
with_buffer buffer b new a = if nat_eq a b then new else buffer a

-- one buffer becomes active, for entries of this width
abbrev pub handed_out : {H : Type 0} → WorkView H → ℕ → ℕ → WorkView H
handed_out work b width = record work { buffer = with_buffer work.buffer b (Buffer.active width (last_tag (work.buffer b))) }

-- the image that a root reaches
abbrev pub next_image : (ℕ → Records → ℕ → List ℕ) → ℕ → Records → ℕ → Image
next_image reaches shape m root = image_of (reaches shape m root) m root

-- there is one more commit, with this image; of the other commits only old ones are released
pub record AddsCommit (old new : Commits) (image : Image) : Type 0 where
  pub last : new.last ≡ old.last + 1
  pub image_is : new.image new.last ≡ image
  pub rises : old.floor ≤ new.floor
  pub within : new.floor ≤ new.last
  pub kept : (n : ℕ) → new.floor ≤ n → n ≤ old.last → new.image n ≡ old.image n

-- one more image, if images are recorded
abbrev pub told_after : List Image → Image → List Image
told_after [] image = []
told_after (i ∷ is) image = (i ∷ is) ++ image ∷ []

-- the work after a publish, with these commits
abbrev pub published : {H : Type 0} → WorkView H → Commits → Image → WorkView H
published work commits image = record work { commits = commits; stored = nothing_stored; told = told_after work.told image }

-- the floor is at most the last commit, and no hold begins with a commit below the floor
pub record IsInOrder {H : Type 0} (work : WorkView H) : Type 0 where
  pub floor : work.commits.floor ≤ work.commits.last
  pub limit : work.commits.last ≤ work.sizes.commits
  pub oldest : (oldest_of work.queue).first ≤ work.commits.floor
