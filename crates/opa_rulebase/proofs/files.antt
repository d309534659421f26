mod FileLineLaws
mod FileLaws
mod LayoutLaws
