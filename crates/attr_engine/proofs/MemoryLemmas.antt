-- Rounds that were taken in are reads of the one run, reader by reader.
use Rattle.std.proofs.Common.{◌≡◌, ◌++◌, ◌+◌, ℕ, zero, suc, List, [], ◌∷◌, length, map, refl, sym, ap, ap₂, subst, ◌∙◌, arith}
use Rattle.std.specs.Prelude.{Bool, true, false, if◌then◌else◌, All, Vec, take, reverse}
use Rattle.std.specs.Global.{Global}
use Rattle.std.specs.List.{AllZip, AllByRecursion}
use Rattle.std.proofs.lemmas.List.{append-nil, map-append, reverse-append, take-append-drop}
use Rattle.entry_ref.specs.declared.images.Image.{Image}
use Rattle.entry_ref.specs.Records.{Records}
use Rattle.gen_core.specs.declared.views.Event.{Event}
use Rattle.gen_core.specs.declared.views.ReaderView.{ReaderView}
use Rattle.gen_core.specs.declared.views.WriterView.{WriterView}
use Rattle.gen_core.specs.Events.{joined}
use Rattle.gen_core.specs.Reads.{reads_of, commits_seen}
use Rattle.atomic_table.specs.declared.badge.Badge.{Badge}
use Rattle.word_arena.specs.Ruled.{writer_of}
use Rattle.word_arena.specs.declared.rule.Watched.{Watched}
use Rattle.attr_types.specs.declared.op.Op.{Op}
use Rattle.attr_loader.specs.Loading.{AreCommits, commit_point}
use Rattle.attr_report.specs.Run.{Run}
use Rattle.attr_rounds.specs.Rounds.{IsOfSeen, MakesRounds}
use Rattle.attr_rounds.specs.declared.rounds.Round.{Round}
use Rattle.attr_rounds.specs.declared.asked.Told.{Told}
use Rattle.attr_engine.specs.Memory.{reads_by, AreOfMemory, IsOfMemory}
use Rattle.attr_engine.specs.Rounds.{commits_of, AreRoundsAt, IsRoundAt}
use Rattle.attr_engine.specs.Saver.{one_if, save_parts}
use Rattle.attr_engine.specs.Steps.{parts, AllFrom, AllRead, KeepsTaken, KeepsWriter, KnowsRun}
use Rattle.attr_engine.specs.Writing.{operations_of_rounds}

-- ---- with numbers

head_of : {X : Type 0} (P : X → Type 0) (x : X) (xs : List X) → All P (x ∷ xs) → P x
head_of P x xs all = all 0 x (omega arith)

tail_of : {X : Type 0} (P : X → Type 0) (x : X) (xs : List X) → All P (x ∷ xs) → All P xs
tail_of P x xs all k d below = all (suc k) d (omega (arith, below))

pub from_push : {A : Type 0} (P : ℕ → A → Type 0) (n : ℕ) (xs : List A) (x : A) → AllFrom P n xs → P (n + length xs) x → AllFrom P n (xs ++ x ∷ [])
from_push P n [] x all here = (subst (λ k. P k x) (let e : n + 0 ≡ n = omega arith in e) here, tt)
from_push P n (y ∷ xs) x all here = (all.0, from_push P (n + 1) xs x all.1 (subst (λ k. P k x) (let e : n + length (y ∷ xs) ≡ (n + 1) + length xs = omega arith in e) here))

pub from_zip : {A B : Type 0} (J : ℕ → A → Type 0) (G : A → B → Type 0) (Q : ℕ → B → Type 0) → ((k : ℕ) (a : A) (b : B) → J k a → G a b → Q k b)
    → (n : ℕ) (xs : List A) (ys : List B) → AllFrom J n xs → AllZip G xs ys → AllFrom Q n ys
from_zip J G Q step n [] [] all zip = tt
from_zip J G Q step n [] (b ∷ ys) all zip = absurd zip
from_zip J G Q step n (a ∷ xs) [] all zip = absurd zip
from_zip J G Q step n (a ∷ xs) (b ∷ ys) all zip = (step n a b all.0 zip.0, from_zip J G Q step (n + 1) xs ys all.1 zip.1)

-- the rounds of the readers that a run has: those after the loading, or those beside it
pub chosen_from : {A : Type 0} (P : ℕ → A → Type 0) (b save : Bool) (readers made : ℕ) (first later chosen : List A) → chosen ≡ (if b then later else first)
    → made ≡ (parts b readers).0 + one_if (save_parts b save).0 → AllFrom P 0 first → AllFrom P made later → AllFrom P 0 chosen
chosen_from P true save readers made first later chosen is none one two = subst (AllFrom P 0) (sym is) (subst (λ n. AllFrom P n later) none two)
chosen_from P false save readers made first later chosen is none one two = subst (AllFrom P 0) (sym is) one

-- rounds are of the commits that the reader with this number read
abbrev pub ReadsIn : List Event → ℕ → Vec (Round Told) Global → Type 0
ReadsIn events k r = commits_of r.items ≡ reads_of k events

all_reads : (events : List Event) (n count : ℕ) (rounds : List (Vec (Round Told) Global)) → length rounds ≡ count
    → AllFrom (ReadsIn events) n rounds → map (λ r. commits_of r.items) rounds ≡ reads_by events n count
all_reads events n zero [] is all = refl
all_reads events n zero (r ∷ rounds) is all = absurd (omega (arith, is))
all_reads events n (suc count) [] is all = absurd (omega (arith, is))
all_reads events n (suc count) (r ∷ rounds) is all = ap₂ (λ (x : List ℕ) (xs : List (List ℕ)). x ∷ xs) all.0 (all_reads events (n + 1) count rounds (omega (arith, is)) all.1)

-- ---- what a reader saw

zip_map : {A B C : Type 0} (R : A → B → Type 0) (f : A → C) (g : B → C) → ((a : A) (b : B) → R a b → f a ≡ g b) → (xs : List A) (ys : List B) → AllZip R xs ys → map f xs ≡ map g ys
zip_map R f g same [] [] zip = refl
zip_map R f g same [] (b ∷ ys) zip = absurd zip
zip_map R f g same (a ∷ xs) [] zip = absurd zip
zip_map {C = C} R f g same (a ∷ xs) (b ∷ ys) zip = ap₂ (λ (c : C) (cs : List C). c ∷ cs) (same a b zip.0) (zip_map R f g same xs ys zip.1)

map_reverse : {A B : Type 0} (f : A → B) (xs : List A) → map f (reverse xs) ≡ reverse (map f xs)
map_reverse f [] = refl
map_reverse {A = A} {B = B} f (x ∷ xs) =
    ap (map f) (reverse-append (x ∷ []) xs) ∙ map-append f (reverse xs) (x ∷ [])
    ∙ ap (λ (ys : List B). ys ++ f x ∷ []) (map_reverse f xs) ∙ sym (reverse-append (f x ∷ []) (map f xs))

-- a reader that had seen nothing saw its rounds' commits, and no other
pub rounds_seen : {A : Type 0} (operations : ℕ → Records → ℕ → ℕ) (answers : ℕ → Records → ℕ → A → Type 0) (lawful : ℕ → Records → ℕ → Type 0)
    (start r : ReaderView) (rounds : List (Round A))
    → start.saw ≡ [] → MakesRounds operations answers lawful start r rounds → map (λ (x : Round A). x.commit) rounds ≡ commits_seen r
rounds_seen {A = A} operations answers lawful start r rounds nothing makes =
    let n = length rounds in
    let all : take n r.saw ≡ r.saw =
    sym (append-nil (take n r.saw)) ∙ ap (λ (rest : List (ℕ × Image)). take n r.saw ++ rest) (sym (makes.nothing_else ∙ nothing)) ∙ take-append-drop n r.saw in
    zip_map (IsOfSeen operations answers lawful r.sizes.shape) (λ (x : Round A). x.commit) (λ (c : ℕ × Image). c.0) (λ round seen is. is.commit) rounds (reverse r.saw)
    (subst (λ (saw : List (ℕ × Image)). AllZip (IsOfSeen operations answers lawful r.sizes.shape) rounds (reverse saw)) all makes.are_seen.each)
    ∙ map_reverse (λ (c : ℕ × Image). c.0) r.saw

-- ---- readers taken in

pub took_in : (v v' : WriterView) (r : ReaderView) (events : List Event) → v' ≡ joined v r → AllRead events v' → (commits_seen r ≡ reads_of r.number events) × AllRead events v
took_in v v' r events is read =
    let Reads : ReaderView → Type 0 = λ x. commits_seen x ≡ reads_of x.number events in
    let all : All Reads (r ∷ v.taken) = subst (All Reads) (ap (λ (x : WriterView). x.taken) is) read in
    (head_of Reads r v.taken all, tail_of Reads r v.taken all)

pub taken_by_join : (v v' : WriterView) (r : ReaderView) → v' ≡ joined v r → KeepsTaken v v'
taken_by_join v v' r is events read = (took_in v v' r events is read).1

pub taken_same : (w v : WriterView) → v.taken ≡ w.taken → KeepsTaken w v
taken_same w v is events read = subst (All (λ (x : ReaderView). commits_seen x ≡ reads_of x.number events)) is read

-- ---- rounds by the operations of their commits

points_of : (run : Run) (ops : List Op) (last : ℕ) (rounds : List (Round Told)) → All (IsRoundAt run ops last) rounds
    → operations_of_rounds rounds ≡ map (commit_point run.batch (length ops)) (commits_of rounds)
points_of run ops last [] all = refl
points_of run ops last (round ∷ rounds) all =
    ap₂ (λ (n : ℕ) (ns : List ℕ). n ∷ ns) (head_of (IsRoundAt run ops last) round rounds all).point
    (points_of run ops last rounds (tail_of (IsRoundAt run ops last) round rounds all))

all_points : (run : Run) (ops : List Op) (seen last : ℕ) (rounds : List (Vec (Round Told) Global)) → AllByRecursion (λ r. AreRoundsAt run ops seen last r.items) rounds
    → map (λ r. operations_of_rounds r.items) rounds ≡ map (map (commit_point run.batch (length ops))) (map (λ r. commits_of r.items) rounds)
all_points run ops seen last [] all = refl
all_points run ops seen last (r ∷ rounds) all =
    ap₂ (λ (ns : List ℕ) (rest : List (List ℕ)). ns ∷ rest) (points_of run ops last r.items all.0.each) (all_points run ops seen last rounds all.1)

-- ---- a whole run

pub of_memory : (run : Run) (ops : List Op) (v : WriterView) (seat : Badge Watched) (knew : Watched) (last : ℕ)
    → AreCommits run.fields run.batch ops last v.commits → length v.commits ≡ last + 1 → seat.views ≡ knew ∷ []
    → KeepsWriter v (writer_of knew) → KnowsRun knew → (rounds : List (Vec (Round Told) Global)) → length rounds ≡ run.readers → AllFrom (ReadsIn knew.seen) 0 rounds
    → IsOfMemory run ops last seat (map (λ r. commits_of r.items) rounds)
of_memory run ops v seat knew last are count is keeps knows rounds many reads = record {
  knew = knew;
  is = is;
  whole = knows.whole;
  tables = subst (AreCommits run.fields run.batch ops last) (sym (ap (λ (x : WriterView). x.commits) keeps)) are;
  count = ap (λ (x : WriterView). length x.commits) keeps ∙ count;
  named = knows.named;
  reads = all_reads knew.seen 0 run.readers rounds many reads;
}

pub are_of_memory : (run : Run) (ops : List Op) (seen last loaded loaded' : ℕ) (seat seat' : Badge Watched) (rounds : List (Vec (Round Told) Global)) (counts : List (List ℕ))
    → AllByRecursion (λ r. AreRoundsAt run ops seen last r.items) rounds → IsOfMemory run ops last seat (map (λ r. commits_of r.items) rounds) → seat' ≡ seat
    → loaded ≡ commit_point run.batch (length ops) last → loaded' ≡ loaded → counts ≡ map (λ r. operations_of_rounds r.items) rounds → AreOfMemory run ops loaded' seat' counts
are_of_memory run ops seen last loaded loaded' seat seat' rounds counts all memory same point as_many is = record {
  last = last;
  point = as_many ∙ point;
  commits = map (λ r. commits_of r.items) rounds;
  memory = subst (λ (s : Badge Watched). IsOfMemory run ops last s (map (λ r. commits_of r.items) rounds)) (sym same) memory;
  points = is ∙ all_points run ops seen last rounds all;
}

-- ---- the seat of a writer determines the rounds

abbrev first_in : Watched → List Watched → Watched
first_in x [] = x
first_in x (y ∷ ys) = y

same_commits : (run : Run) (ops : List Op) (last last' : ℕ) (seat : Badge Watched) (commits others : List (List ℕ)) → IsOfMemory run ops last seat commits → IsOfMemory run ops last' seat others
    → commits ≡ others
same_commits run ops last last' seat commits others one two =
    one.reads ∙ ap (λ (x : Watched). reads_by x.seen 0 run.readers) (ap (first_in one.knew) (sym one.is ∙ two.is)) ∙ sym two.reads

pub same_rounds : (run : Run) (ops : List Op) (loaded loaded' : ℕ) (seat : Badge Watched) (rounds others : List (List ℕ)) → AreOfMemory run ops loaded seat rounds → AreOfMemory run ops loaded' seat others
    → rounds ≡ others
same_rounds run ops loaded loaded' seat rounds others one two =
    one.points ∙ ap (map (map (commit_point run.batch (length ops)))) (same_commits run ops one.last two.last seat one.commits two.commits one.memory two.memory) ∙ sym two.points
