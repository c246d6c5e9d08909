-- The table at the end of a story: where each distributed application ran (ours).
use Rattle.std.specs.Prelude.{◌==◌, ◌&&◌, ℕ, List, [], ◌∷◌, ◌++◌, length, codes, Bool, true, false, if◌then◌else◌, Option, Some, None}
use Rattle.std.specs.List.{flat_map}
use Rattle.rh_script.specs.declared.notes.Kind.{Kind}
use Rattle.rh_script.specs.declared.notes.Kind.TheVariants.{Table}
use Rattle.rh_script.specs.Notes.{mark, note_of}
use Rattle.rh_model.specs.ClusterView.{ClusterView}
use Rattle.rh_trail.specs.SimView.{SimView}
use Rattle.rh_script.specs.Lines.{content}
use Rattle.rh_courses.specs.Courses.{CourseView, courses_in}
use Rattle.rh_courses.specs.Texts.{course_text}
use Rattle.rh_story.specs.HeadText.{missing_end}

-- ---- the table

-- a course behind the mark of tables
abbrev pub course_line : ClusterView → CourseView → List ℕ
course_line c course = mark Table ++ course_text c course ++ codes "\n"

-- the lines of courses behind a blank line, which begins with what the text before it lacks of its end; nothing where there is
-- no course
abbrev pub table_over : ClusterView → List ℕ → List CourseView → List ℕ
table_over c lack courses = if length courses == 0 then [] else lack ++ codes "\n" ++ flat_map (course_line c) courses

-- the table of a simulation, behind a text that lacks so much of its end
unfoldable pub table_text : List ℕ → SimView → List ℕ
table_text lack s = table_over s.cluster lack (courses_in s)

-- what a text lacks of its end behind a piece more
abbrev pub lack_behind : List ℕ → List ℕ → List ℕ
lack_behind lack piece = if length piece == 0 then lack else missing_end piece

-- ---- an old table

abbrev pub is_table_kind : Kind → Bool
is_table_kind Table = true
is_table_kind _ = false

abbrev pub is_table_note : Option (Kind × List ℕ) → Bool
is_table_note None = false
is_table_note (Some note) = is_table_kind note.0

-- the first of these lines is one of a table
abbrev pub starts_table : List (List ℕ) → Bool
starts_table [] = false
starts_table (line ∷ lines) = is_table_note (note_of (content line))

-- a line is blank, and a table comes behind it: an earlier story wrote it
unfoldable pub is_left_out : List ℕ → List (List ℕ) → Bool
is_left_out line lines = (length (content line) == 0) && starts_table lines

-- the text of a line, by the line and those behind it: nothing where it is left out
abbrev pub shown : List ℕ → List (List ℕ) → List ℕ → List ℕ
shown line lines text = if is_left_out line lines then [] else text
